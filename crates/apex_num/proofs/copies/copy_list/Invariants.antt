use Rattle.std.proofs.Common.{◌≡◌, take}
use Rattle.apex_num.proofs.copies.copy_list.Given as goal

abbrev pub invariant-loop-item : goal.invariant-loop-item
invariant-loop-item g l = l.done ≡ take l.item-index l.list
