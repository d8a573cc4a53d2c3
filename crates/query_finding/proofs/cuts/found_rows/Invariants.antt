use Rattle.std.proofs.Common.{◌≡◌, ◌++◌, map}
use Rattle.query_finding.specs.Steps.{found_of}
use Rattle.query_finding.proofs.cuts.found_rows.Given as goal

abbrev pub invariant-loop-row : goal.invariant-loop-row
invariant-loop-row l =
    l.found ++ map (found_of l.schema l.binds l.query l.known l.under) l.row-iterator.rest.items ≡ map (found_of l.schema l.binds l.query l.known l.under) l.fn.rows
