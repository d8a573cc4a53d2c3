-- What an expression sees (docs/language.md, "The walk over expressions").
use Rattle.std.specs.Prelude.{ℕ, List}
use Rattle.expression_walk.specs.declared.view.View.{View}
use Rattle.method_calls.specs.MethodNamings.{Namings, namings}
use Rattle.name_meanings.specs.Settings.{Around, around}
use Rattle.static_types.specs.declared.kind.ValueType.{ValueType}

-- where it stands, the names of all methods, and the locals in scope
pub record Sight : Type 0 where
  pub around : Around
  pub methods : Namings
  pub locals : List (List ℕ × ValueType)

abbrev pub sight : View → Sight
sight v = record { around = around v.setting.now; methods = namings v.methods.now; locals = v.scope.now }
