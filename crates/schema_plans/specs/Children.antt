-- When two children words are the same.
use Rattle.std.specs.Prelude.{Bool}
use Rattle.schema_plans.specs.declared.child.ChildWord.{ChildWord}
use Rattle.schema_plans.specs.contracts.child.ChildWordPartialEq.TheImpl.{ghosts}

abbrev pub child_eq : ChildWord → ChildWord → Bool
child_eq = ghosts.eq
