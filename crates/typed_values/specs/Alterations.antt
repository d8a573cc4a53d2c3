-- What calls answer that alter a value.
use Rattle.std.specs.Prelude.{◌≡◌, Result, Ok, Err}
use Rattle.type_names.specs.declared.fault.WalkFault.{WalkFault}
use Rattle.type_names.specs.Walks.{Walk, Gives, Fails}

abbrev pub Alters : {A B : Type 0} → Walk A → Result B WalkFault → A → Type 0
Alters walk (Ok b) new = walk ≡ Gives new
Alters walk (Err fault) new = Fails walk fault
