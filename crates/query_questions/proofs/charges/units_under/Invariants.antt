use Rattle.std.proofs.Common.{◌≡◌, ◌+◌, ◌<◌, ◌^◌, drop}
use Rattle.query_meaning.specs.Queries.{children_in, units_of}
use Rattle.query_questions.specs.Capped.{capped}
use Rattle.query_questions.proofs.charges.units_under.Given as goal

abbrev pub invariant-loop-children : goal.invariant-loop-children
invariant-loop-children l = record {
  same : capped (l.sum + units_of l.schema (children_in (drop l.children-index l.lists))) ≡ capped (l.initial.sum + units_of l.schema (children_in l.lists));
  fits : l.sum < 2 ^ 64;
}
