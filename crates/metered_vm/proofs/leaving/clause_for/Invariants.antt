use Rattle.std.proofs.Common.{◌≡◌, drop}
use Rattle.program_things.specs.Kinds.{as_kind}
use Rattle.metered_vm.specs.Leaving.{first_taking}
use Rattle.metered_vm.proofs.leaving.clause_for.Given as goal

abbrev pub invariant-clauses : goal.invariant-clauses
invariant-clauses l = first_taking l.image (as_kind l.thrown) (drop l.clause-index l.clauses) ≡ first_taking l.image (as_kind l.thrown) l.clauses
