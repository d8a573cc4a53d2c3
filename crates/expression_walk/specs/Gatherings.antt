-- What calls answer that gather the fields of a new record.
use Rattle.std.specs.Prelude.{◌≡◌, List, Result, Ok, Err}
use Rattle.new_values.specs.declared.open.OpenRecord.{OpenRecord}
use Rattle.typed_program.specs.declared.expr.TypedBind.{TypedBind}
use Rattle.type_names.specs.Walks.{Walk, Gives, Fails}
use Rattle.type_names.specs.declared.fault.WalkFault.{WalkFault}
use Rattle.typed_program.specs.declared.expr.TypedPair.{TypedPair}

abbrev pub Gathers : Walk (List TypedPair) → Result OpenRecord WalkFault → Type 0
Gathers walk (Ok given) = walk ≡ Gives given.pairs
Gathers walk (Err fault) = Fails walk fault

-- what calls answer that alter a query beside its binds
abbrev pub Grows : {A B : Type 0} → Walk (A × List TypedBind) → Result B WalkFault → A → List TypedBind → Type 0
Grows walk (Ok b) new binds = walk ≡ Gives (new, binds)
Grows walk (Err fault) new binds = Fails walk fault
