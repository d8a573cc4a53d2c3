use Rattle.std.proofs.Common.{◌≡◌, ◌++◌, map, drop}
use Rattle.apex_rows.specs.declared.row.Found.{Found}
use Rattle.save_meaning.specs.Inserts.{ids_of}
use Rattle.query_finding.proofs.holds.ids_of.Given as goal

abbrev pub invariant-loop-one : goal.invariant-loop-one
invariant-loop-one l = l.ids ++ ids_of (map (λ (f : Found). f.row) (drop l.one-index l.found)) ≡ ids_of (map (λ (f : Found). f.row) l.found)
