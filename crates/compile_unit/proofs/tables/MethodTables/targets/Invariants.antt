use Rattle.std.proofs.Common.{◌≡◌, take, map}
use Rattle.compile_unit.specs.Keys.{target_in}
use Rattle.compile_unit.proofs.tables.MethodTables.targets.Given as goal

abbrev pub invariant-loop-method : goal.invariant-loop-method
invariant-loop-method l = l.targets ≡ map (target_in l.self.program.now l.chain) (take l.method-index l.methods)
