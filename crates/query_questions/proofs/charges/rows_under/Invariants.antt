use Rattle.std.proofs.Common.{◌≡◌, ◌+◌, ◌<◌, ◌^◌, drop, length}
use Rattle.query_meaning.specs.Queries.{children_in}
use Rattle.query_questions.specs.Capped.{capped}
use Rattle.query_questions.proofs.charges.rows_under.Given as goal

abbrev pub invariant-loop-children : goal.invariant-loop-children
invariant-loop-children l = record {
  same : capped (l.sum + length (children_in (drop l.children-index l.lists))) ≡ capped (l.initial.sum + length (children_in l.lists));
  fits : l.sum < 2 ^ 64;
}
