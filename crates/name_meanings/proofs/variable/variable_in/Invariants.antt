use Rattle.std.proofs.Common.{◌≡◌, drop}
use Rattle.name_meanings.specs.Variables.{variable_in}
use Rattle.name_meanings.proofs.variable.variable_in.Given as goal

abbrev pub invariant-loop-row : goal.invariant-loop-row
invariant-loop-row l = variable_in (drop l.row-index l.rows) l.name ≡ variable_in l.rows l.name
