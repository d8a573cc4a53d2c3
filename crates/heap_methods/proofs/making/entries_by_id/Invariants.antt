use Rattle.std.proofs.Common.{◌≡◌, drop}
use Rattle.heap_methods.specs.Making.{entries_by_id}
use Rattle.heap_methods.specs.Entering.{behind}
use Rattle.heap_methods.proofs.making.entries_by_id.Given as goal

abbrev pub invariant-loop-value : goal.invariant-loop-value
invariant-loop-value l = behind l.done (entries_by_id l.heap (drop l.value-index l.values)) ≡ entries_by_id l.heap l.values
