use Rattle.std.proofs.Common.{◌≡◌, None, replicate}
use Rattle.program_things.proofs.records.nothing_known.Given as goal

abbrev pub invariant-fill : goal.invariant-fill
invariant-fill l = l.cells ≡ replicate l.i None
