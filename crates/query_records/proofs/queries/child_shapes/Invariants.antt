use Rattle.std.proofs.Common.{◌≡◌, map, take}
use Rattle.query_records.specs.Shapes.{child_shape}
use Rattle.query_records.proofs.queries.child_shapes.Given as goal

abbrev pub invariant-loop-child : goal.invariant-loop-child
invariant-loop-child l = l.all ≡ map child_shape (take l.child-index l.children)
