use Rattle.std.proofs.Common.{◌≡◌, ◌+◌, ◌<◌, ◌^◌, drop, length}
use Rattle.heap_methods.specs.Lists.{joined_behind}
use Rattle.heap_units.specs.Growths.{capped}
use Rattle.heap_units.proofs.units.rest_units.Given as goal

abbrev pub invariant-loop-item : goal.invariant-loop-item
invariant-loop-item l = record {
  same : capped (l.sum + length (joined_behind l.between (drop l.item-index l.items))) ≡ capped (l.initial.sum + length (joined_behind l.between l.items));
  fits : l.sum < 2 ^ 64;
}
