use Rattle.std.proofs.Common.{length}
use Rattle.compile_unit.proofs.tables.MethodTables.+nearest.Given as goal

abbrev pub decreases-nearest : goal.decreases-nearest
decreases-nearest l = length l.chain.now
