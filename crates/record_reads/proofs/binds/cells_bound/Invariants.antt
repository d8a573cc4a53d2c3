use Rattle.std.proofs.Common.{◌≡◌, ◌++◌}
use Rattle.apex_meaning.specs.Queries.{Has, cells_bound, then_bound}
use Rattle.record_reads.proofs.binds.cells_bound.Given as goal

abbrev pub invariant-loop-value : goal.invariant-loop-value
invariant-loop-value l = then_bound (cells_bound l.how l.value-iterator.rest.items) (λ cs. Has (l.cells ++ cs)) ≡ cells_bound l.how l.fn.values
