use Rattle.std.proofs.Common.{◌≡◌, take}
use Rattle.query_records.proofs.shape.+copy_over.Given as goal

abbrev pub invariant-copy_overs-loop-over : goal.invariant-copy_overs-loop-over
invariant-copy_overs-loop-over l = l.done ≡ take l.over-index l.list
