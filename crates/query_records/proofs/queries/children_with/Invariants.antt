use Rattle.std.proofs.Common.{◌≡◌, map, take}
use Rattle.query_records.specs.Shapes.{child_with}
use Rattle.query_records.proofs.queries.children_with.Given as goal

abbrev pub invariant-loop-child : goal.invariant-loop-child
invariant-loop-child l = l.all ≡ map child_with (take l.child-index l.children)
