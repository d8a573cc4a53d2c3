use Rattle.std.proofs.Common.{◌≡◌, ◌≤◌, ◌++◌, drop, length}
use Rattle.apex_meaning.specs.Queries.{Has, all_bound, then_bound}
use Rattle.record_reads.proofs.binds.all_bound.Given as goal

abbrev pub invariant-loop-value : goal.invariant-loop-value
invariant-loop-value l =
    (l.i ≤ length l.kinds) × (then_bound (all_bound (drop l.i l.kinds) l.value-iterator.rest.items l.heap) (λ bs. Has (l.binds ++ bs)) ≡ all_bound l.kinds l.fn.values.items l.heap)
