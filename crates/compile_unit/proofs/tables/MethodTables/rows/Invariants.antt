use Rattle.std.proofs.Common.{◌≡◌, take, map}
use Rattle.stack_code.specs.Images.{row_for}
use Rattle.compile_unit.proofs.tables.MethodTables.rows.Given as goal

abbrev pub invariant-loop-class : goal.invariant-loop-class
invariant-loop-class l = l.rows ≡ map (row_for l.self.program.now l.chain) (take l.class-index l.fits)
