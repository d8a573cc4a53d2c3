-- How much longer a collection gets by a change, and units that a u64 holds.
use Rattle.std.specs.Prelude.{ℕ, ◌-◌, ◌^◌, List, length, min}
use Rattle.apex_num.specs.declared.cell.Cell.{Cell}
use Rattle.txn_heap.specs.declared.change.Change.{Change}
use Rattle.txn_heap.specs.declared.thing.Value.{Value}
use Rattle.txn_heap.specs.Changes.{list_after, set_after, map_after}

abbrev pub list_growth : Change → List Value → ℕ
list_growth change xs = length (list_after change xs) - length xs

abbrev pub set_growth : Change → List Cell → ℕ
set_growth change ks = length (set_after change ks) - length ks

abbrev pub map_growth : Change → List (Cell × Value) → ℕ
map_growth change es = length (map_after change es) - length es

-- 2^64 - 1 stands for more
abbrev pub capped : ℕ → ℕ
capped n = min n (2 ^ 64 - 1)
