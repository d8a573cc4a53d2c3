use Rattle.std.proofs.Common.{◌≡◌, drop}
use Rattle.apex_num.specs.Ids.{capitals}
use Rattle.apex_num.proofs.id.check_of.Given as goal

abbrev pub invariant-loop-i : goal.invariant-loop-i
invariant-loop-i l = l.number ≡ capitals (drop l.i l.five)
