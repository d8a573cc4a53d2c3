use Rattle.std.proofs.Common.{◌≡◌, drop}
use Rattle.std.specs.List.{list_any}
use Rattle.heap_methods.specs.Operands.{same_value}
use Rattle.heap_methods.proofs.lists.contains.Given as goal

abbrev pub invariant-loop-other : goal.invariant-loop-other
invariant-loop-other l = list_any (same_value l.item) (drop l.other-index l.items) ≡ list_any (same_value l.item) l.items
