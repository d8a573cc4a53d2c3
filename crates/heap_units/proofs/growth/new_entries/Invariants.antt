use Rattle.std.proofs.Common.{◌≡◌, ◌+◌, ◌||◌, take, length}
use Rattle.apex_num.specs.declared.cell.Cell.{Cell}
use Rattle.txn_heap.specs.Words.{has, with_keys, keys_of}
use Rattle.heap_units.proofs.growth.new_entries.Given as goal

abbrev pub invariant-loop-key : goal.invariant-loop-key
invariant-loop-key l = record {
  longer : length (with_keys (keys_of l.entries) (take l.key-index l.more)) ≡ length (keys_of l.entries) + length l.new;
  known : (q : Cell) → has q (with_keys (keys_of l.entries) (take l.key-index l.more)) ≡ (has q (keys_of l.entries) || has q l.new);
}
