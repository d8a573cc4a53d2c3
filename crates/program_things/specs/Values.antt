-- Instructions of values, variables and things.
use Rattle.std.specs.Prelude.{Bool, true, false}
use Rattle.stack_code.specs.declared.code.Instr.{Instr}
use Rattle.stack_code.specs.declared.code.Instr.TheVariants as I

abbrev pub is_value : Instr → Bool
is_value (I.Push k) = true
is_value I.This = true
is_value I.Pop = true
is_value (I.Convert how) = true
is_value (I.Negate n) = true
is_value I.Not = true
is_value (I.Calc left op right) = true
is_value I.Truth = true
is_value (I.Get slot) = true
is_value (I.Fetch slot) = true
is_value (I.Set slot) = true
is_value (I.Store x) = true
is_value (I.Change kind n slot) = true
is_value (I.Builtin which n) = true
is_value (I.Filled kind n) = true
is_value (I.Entries n) = true
is_value (I.Copied kind) = true
is_value (I.Exception k n) = true
is_value (I.Cast k) = true
is_value (I.CastException k) = true
is_value (I.Record object fields) = true
is_value I.Print = true
is_value (I.Message n) = true
is_value (I.MessageThis n) = true
is_value (I.SetOwn place) = true
is_value (I.SetStatic k n) = true
is_value (I.Parent field goes_on) = true
is_value (I.Children object field goes_on) = true
is_value I.Only = true
is_value I.Seen = true
is_value (I.Query q kinds) = true
is_value (I.Save op what) = true
is_value I.Unbuilt = true
is_value _ = false
