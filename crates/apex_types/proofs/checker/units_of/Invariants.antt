use Rattle.std.proofs.Common.{◌≡◌, drop}
use Rattle.apex_types.specs.Homes.{home}
use Rattle.apex_types.specs.Checks.{units_from}
use Rattle.apex_types.proofs.checker.units_of.Given as goal

abbrev pub invariant-loop-i : goal.invariant-loop-i
invariant-loop-i l =
    units_from l.classes.objects.now.names.items l.classes.units.now (home l.home) l.i (drop l.i l.trees) l.code
    ≡ units_from l.classes.objects.now.names.items l.classes.units.now (home l.home) 0 l.trees l.fn.code
