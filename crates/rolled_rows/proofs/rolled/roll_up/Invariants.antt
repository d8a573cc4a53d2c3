use Rattle.std.proofs.Common.{◌≡◌, ◌++◌, map, drop}
use Rattle.rolled_rows.specs.RollUps.{rolled_up}
use Rattle.rolled_rows.proofs.rolled.roll_up.Given as goal

abbrev pub invariant-loop-master : goal.invariant-loop-master
invariant-loop-master l =
    l.all ++ map (rolled_up l.fn.schema l.fn.details) (drop l.master-index l.masters) ≡ map (rolled_up l.fn.schema l.fn.details) l.masters
