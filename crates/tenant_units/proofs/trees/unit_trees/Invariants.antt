use Rattle.std.proofs.Common.{take}
use Rattle.tenant_units.proofs.Steps.{Each}
use Rattle.tenant_units.proofs.trees.unit_trees.Given as goal

abbrev pub invariant-units : goal.invariant-units
invariant-units l = Each (take l.i l.units) l.trees
