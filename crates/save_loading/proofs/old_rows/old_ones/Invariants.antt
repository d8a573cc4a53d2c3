use Rattle.std.proofs.Common.{◌≡◌, ◌++◌, map, drop}
use Rattle.apex_requests.specs.declared.request.SaveRow.{SaveRow}
use Rattle.save_statements.specs.Loading.{old_record}
use Rattle.save_statements.specs.Statements.{unplaced}
use Rattle.save_loading.proofs.old_rows.old_ones.Given as goal

abbrev pub invariant-loop-placed : goal.invariant-loop-placed
invariant-loop-placed l =
    l.records ++ map (λ (r : SaveRow). old_record l.found r.id) (unplaced (drop l.placed-index l.rows)) ≡ map (λ (r : SaveRow). old_record l.found r.id) (unplaced l.rows)
