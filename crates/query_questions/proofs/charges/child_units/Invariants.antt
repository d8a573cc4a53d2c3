use Rattle.std.proofs.Common.{◌≡◌, ◌+◌, ◌<◌, ◌^◌, map, drop}
use Rattle.apex_rows.specs.declared.row.Child.{Child}
use Rattle.query_meaning.specs.Queries.{units_of}
use Rattle.query_questions.specs.Capped.{capped}
use Rattle.query_questions.proofs.charges.child_units.Given as goal

abbrev pub invariant-loop-child : goal.invariant-loop-child
invariant-loop-child l = record {
  same : capped (l.sum + units_of l.schema (map (λ (c : Child). c.row) (drop l.child-index l.children))) ≡ capped (l.initial.sum + units_of l.schema (map (λ (c : Child). c.row) l.children));
  fits : l.sum < 2 ^ 64;
}
