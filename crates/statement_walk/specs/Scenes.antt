-- Where statements stand (docs/language.md, "Statements in code").
use Rattle.std.specs.Prelude.{◌≡◌, ℕ, List, Result, Ok, Err}
use Rattle.class_tables.specs.declared.member.ResultHead.{ResultHead}
use Rattle.expression_walk.specs.Views.{Sight}
use Rattle.method_calls.specs.MethodNamings.{Namings, namings}
use Rattle.name_meanings.specs.Settings.{Around, around}
use Rattle.statement_walk.specs.declared.view.BodyView.{BodyView}
use Rattle.static_types.specs.declared.kind.ValueType.{ValueType}
use Rattle.type_names.specs.declared.fault.WalkFault.{WalkFault}
use Rattle.type_names.specs.Walks.{Walk, Gives, Fails}

abbrev pub Locals : Type 0
Locals = List (List ℕ × ValueType)

-- the body's surroundings, the names of all methods, and what it answers
pub record Scene : Type 0 where
  pub around : Around
  pub methods : Namings
  pub due : ResultHead

abbrev pub scene : BodyView → Scene
scene v = record { around = around v.setting.now; methods = namings v.methods.now; due = v.due.now }

abbrev pub sight_in : Scene → Locals → Sight
sight_in s locals = record { around = s.around; methods = s.methods; locals = locals }

-- what calls answer that change the locals in scope
abbrev pub Threads : {A : Type 0} → Walk (A × Locals) → Result A WalkFault → Locals → Type 0
Threads walk (Ok a) locals = walk ≡ Gives (a, locals)
Threads walk (Err fault) locals = Fails walk fault
