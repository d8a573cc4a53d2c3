use Rattle.std.proofs.Common.{◌≡◌, ◌++◌}
use Rattle.query_questions.proofs.parents.listed.Given as goal

abbrev pub invariant-loop-way : goal.invariant-loop-way
invariant-loop-way l = l.paths ++ l.way-iterator ≡ l.fn.ways.keys
