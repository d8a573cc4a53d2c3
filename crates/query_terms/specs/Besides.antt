-- Parts of a query beside its binds (docs/language.md, "Queries in code").
use Rattle.std.specs.Prelude.{◌≡◌, List, Result, Ok, Err}
use Rattle.type_names.specs.declared.fault.WalkFault.{WalkFault}
use Rattle.type_names.specs.Walks.{Walk, Gives, Fails}
use Rattle.typed_program.specs.declared.expr.TypedBind.{TypedBind}

-- a part of a query, beside the binds before it and up to its end
abbrev pub Beside : Type 0 → Type 0
Beside A = List TypedBind → Walk (A × List TypedBind)

-- what calls answer that add binds
abbrev pub Adds : {A : Type 0} → Walk (A × List TypedBind) → Result A WalkFault → List TypedBind → Type 0
Adds walk (Ok a) binds = walk ≡ Gives (a, binds)
Adds walk (Err fault) binds = Fails walk fault
