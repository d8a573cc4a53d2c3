use Rattle.std.proofs.Common.{◌≡◌, ◌+◌, ◌<◌, ◌^◌, drop, length}
use Rattle.query_meaning.specs.Queries.{rows_in}
use Rattle.query_questions.specs.Capped.{capped}
use Rattle.query_questions.proofs.charges.rows_of.Given as goal

abbrev pub invariant-loop-one : goal.invariant-loop-one
invariant-loop-one l = record {
  same : capped (l.sum + length (rows_in (drop l.one-index l.found))) ≡ capped (length (rows_in l.found));
  fits : l.sum < 2 ^ 64;
}
