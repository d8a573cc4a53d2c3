use Rattle.std.proofs.Common.{◌≡◌, true, refl, sym, ap, subst}
use Rattle.stack_code.specs.declared.code.Instr.{Instr}
use Rattle.stack_code.specs.declared.code.Instr.TheVariants as I
use Rattle.program_things.specs.Values.{is_value}
use Rattle.program_things.proofs.act.act_value.Goals as goal

pub unreachable-requires : goal.unreachable-requires
unreachable-requires c = by c.args.instr.now refl c.requires.value where
  by : (i : Instr) → c.args.instr.now ≡ i → is_value i ≡ true → ⊥
  by (I.Push w) e h = c.in_default.not-Push w e
  by I.This e h = c.in_default.not-This e
  by I.Pop e h = c.in_default.not-Pop e
  by (I.Convert w) e h = c.in_default.not-Convert w e
  by (I.Negate w) e h = c.in_default.not-Negate w e
  by I.Not e h = c.in_default.not-Not e
  by (I.Calc w x y) e h = c.in_default.not-Calc w x y e
  by I.Truth e h = c.in_default.not-Truth e
  by I.Step e h = cc
  by (I.Jump w) e h = cc
  by (I.Unless w) e h = cc
  by (I.Both w) e h = cc
  by (I.Either w) e h = cc
  by (I.Back w) e h = cc
  by (I.Get w) e h = c.in_default.not-Get w e
  by (I.Fetch w) e h = c.in_default.not-Fetch w e
  by (I.Set w) e h = c.in_default.not-Set w e
  by (I.Store w) e h = c.in_default.not-Store w e
  by (I.Change w x y) e h = c.in_default.not-Change w x y e
  by (I.Prepare w) e h = cc
  by (I.Builtin w x) e h = c.in_default.not-Builtin w x e
  by (I.Filled w x) e h = c.in_default.not-Filled w x e
  by (I.Entries w) e h = c.in_default.not-Entries w e
  by (I.Copied w) e h = c.in_default.not-Copied w e
  by (I.Exception w x) e h = c.in_default.not-Exception w x e
  by (I.Cast w) e h = c.in_default.not-Cast w e
  by (I.CastException w) e h = c.in_default.not-CastException w e
  by (I.Record w x) e h = c.in_default.not-Record w x e
  by I.Print e h = c.in_default.not-Print e
  by (I.CallStatic w x y) e h = cc
  by (I.CallThis w x y) e h = cc
  by (I.Call w x y) e h = cc
  by (I.New w x y) e h = cc
  by (I.NewPlain w) e h = cc
  by (I.Construct w x y) e h = cc
  by (I.Begin w) e h = cc
  by (I.Message w) e h = c.in_default.not-Message w e
  by (I.MessageThis w) e h = c.in_default.not-MessageThis w e
  by (I.SetOwn w) e h = c.in_default.not-SetOwn w e
  by (I.SetStatic w x) e h = c.in_default.not-SetStatic w x e
  by I.Return e h = cc
  by I.Throw e h = cc
  by I.Break e h = cc
  by I.Continue e h = cc
  by (I.OpenCatch w) e h = cc
  by (I.OpenLast w) e h = cc
  by (I.OpenLoop w x) e h = cc
  by (I.OpenEach w x) e h = cc
  by (I.Each w x y) e h = cc
  by I.Close e h = cc
  by I.Hold e h = cc
  by I.Resume e h = cc
  by (I.Parent w x) e h = c.in_default.not-Parent w x e
  by (I.Children w x y) e h = c.in_default.not-Children w x y e
  by I.Only e h = c.in_default.not-Only e
  by I.Seen e h = c.in_default.not-Seen e
  by (I.Query w x) e h = c.in_default.not-Query w x e
  by (I.Save w x) e h = c.in_default.not-Save w x e
  by I.Unbuilt e h = c.in_default.not-Unbuilt e
