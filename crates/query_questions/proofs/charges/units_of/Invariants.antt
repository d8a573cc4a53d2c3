use Rattle.std.proofs.Common.{◌≡◌, ◌+◌, ◌<◌, ◌^◌, drop}
use Rattle.query_meaning.specs.Queries.{rows_in, units_of}
use Rattle.query_questions.specs.Capped.{capped}
use Rattle.query_questions.proofs.charges.units_of.Given as goal

abbrev pub invariant-loop-one : goal.invariant-loop-one
invariant-loop-one l = record {
  same : capped (l.sum + units_of l.schema (rows_in (drop l.one-index l.found))) ≡ capped (units_of l.schema (rows_in l.found));
  fits : l.sum < 2 ^ 64;
}
