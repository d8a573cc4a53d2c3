use Rattle.std.proofs.Common.{◌≡◌, ◌++◌, drop, string_bytes}
use Rattle.heap_methods.specs.Lists.{joined_behind}
use Rattle.heap_methods.proofs.text.push_rest.Given as goal

abbrev pub invariant-loop-item : goal.invariant-loop-item
invariant-loop-item l = string_bytes l.all ++ joined_behind l.between (drop l.item-index l.items) ≡ string_bytes l.initial.all ++ joined_behind l.between l.items
