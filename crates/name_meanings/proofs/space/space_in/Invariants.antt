use Rattle.std.proofs.Common.{◌≡◌, drop}
use Rattle.name_meanings.specs.Spaces.{space_in}
use Rattle.name_meanings.proofs.space.space_in.Given as goal

abbrev pub invariant-loop-row : goal.invariant-loop-row
invariant-loop-row l = space_in (drop l.row-index l.rows) l.name ≡ space_in l.rows l.name
