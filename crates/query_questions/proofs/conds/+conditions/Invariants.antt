use Rattle.std.proofs.Common.{◌≡◌, ◌++◌, map, drop}
use Rattle.query_meaning.specs.Questions.{given}
use Rattle.query_questions.proofs.conds.+conditions.Given as goal

abbrev pub invariant-given_each-loop-cond : goal.invariant-given_each-loop-cond
invariant-given_each-loop-cond l = l.all ++ map (given l.binds) (drop l.cond-index l.conds) ≡ map (given l.binds) l.conds
