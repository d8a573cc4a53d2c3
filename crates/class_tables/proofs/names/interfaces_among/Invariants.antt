use Rattle.std.proofs.Common.{◌≡◌, ◌++◌, drop}
use Rattle.class_tables.specs.Heads.{interfaces_among}
use Rattle.class_tables.proofs.names.interfaces_among.Given as goal

abbrev pub invariant-loop-unit : goal.invariant-loop-unit
invariant-loop-unit l = l.all ++ interfaces_among (drop l.unit-index l.units) ≡ interfaces_among l.units
