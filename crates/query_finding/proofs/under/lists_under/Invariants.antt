use Rattle.std.proofs.Common.{◌≡◌, ◌++◌, map, drop}
use Rattle.query_finding.specs.Steps.{under_row}
use Rattle.query_finding.proofs.under.lists_under.Given as goal

abbrev pub invariant-loop-one : goal.invariant-loop-one
invariant-loop-one l = l.lists ++ map (under_row l.schema l.binds l.row) (drop l.one-index l.under) ≡ map (under_row l.schema l.binds l.row) l.under
