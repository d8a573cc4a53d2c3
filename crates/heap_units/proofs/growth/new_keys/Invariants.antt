use Rattle.std.proofs.Common.{◌≡◌, ◌+◌, ◌||◌, take, length}
use Rattle.apex_num.specs.declared.cell.Cell.{Cell}
use Rattle.txn_heap.specs.Words.{has, with_keys}
use Rattle.heap_units.proofs.growth.new_keys.Given as goal

abbrev pub invariant-loop-key : goal.invariant-loop-key
invariant-loop-key l = record {
  longer : length (with_keys l.keys (take l.key-index l.more)) ≡ length l.keys + length l.new;
  known : (q : Cell) → has q (with_keys l.keys (take l.key-index l.more)) ≡ (has q l.keys || has q l.new);
}
