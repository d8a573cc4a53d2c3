-- Bodies of methods, where the code around them is known.
use Rattle.std.proofs.Common.{◌≡◌, ℕ, false, List, Option, Some, sym, ap, ◌∙◌, subst}
use Rattle.apex_syntax.specs.declared.stmt.Body.{Body}
use Rattle.apex_types.specs.Bodies.{method_body}
use Rattle.apex_types.specs.Homes.{Home, setting, scene_in}
use Rattle.apex_types.specs.Members.{body_where}
use Rattle.class_tables.specs.declared.member.MethodHead.{MethodHead}
use Rattle.name_meanings.specs.Settings.{Around}
use Rattle.statement_walk.specs.Scenes.{Locals}
use Rattle.type_names.specs.declared.fault.WalkFault.{WalkFault}
use Rattle.type_names.specs.declared.fault.WalkFault.TheVariants as Fault
use Rattle.type_names.specs.Walks.{Walk, Gives, Fails, onward}
use Rattle.typed_program.specs.declared.stmt.TypedStmt.{TypedStmt}

module _ {A B : Type 0} where
  halts : (w : Walk A) (go : A → Walk B) (fault : WalkFault) → Fails w fault → Fails (onward w go) fault
  halts w go (Fault.Wrong fault) h = ap (λ v. onward v go) h
  halts w go Fault.NoMemory h = h

module _ (h : Home) (class : ℕ) (m : MethodHead) (locals : Locals) (b : Body) (at : ℕ) (a : Around) (is : a ≡ setting h (Some class) m.is_static false) (t : Option Body) (there : t ≡ Some b) where
  abbrev some : Walk (List TypedStmt) → Walk (Option (List TypedStmt))
  some w = onward w (λ stmts. Gives (Some stmts))

  where_is : body_where h class m locals t at ≡ some (method_body (scene_in h a m.result) locals b at)
  where_is =
      ap (λ x. body_where h class m locals x at) there
      ∙ ap (λ x. some (method_body (scene_in h x m.result) locals b at)) (sym is)

  pub body_gives : (stmts : List TypedStmt) → method_body (scene_in h a m.result) locals b at ≡ Gives stmts → body_where h class m locals t at ≡ Gives (Some stmts)
  body_gives stmts g = where_is ∙ ap some g

  pub body_fails : (fault : WalkFault) → Fails (method_body (scene_in h a m.result) locals b at) fault → Fails (body_where h class m locals t at) fault
  body_fails fault f =
      subst (λ w. Fails w fault) (sym where_is) (halts (method_body (scene_in h a m.result) locals b at) (λ stmts. Gives (Some stmts)) fault f)
