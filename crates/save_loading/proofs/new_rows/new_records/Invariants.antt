use Rattle.std.proofs.Common.{◌≡◌, ◌++◌, map, drop}
use Rattle.apex_requests.specs.declared.request.SaveRow.{SaveRow}
use Rattle.save_statements.specs.Loading.{new_record}
use Rattle.save_statements.specs.Statements.{unplaced}
use Rattle.save_loading.proofs.new_rows.new_records.Given as goal

abbrev pub invariant-loop-placed : goal.invariant-loop-placed
invariant-loop-placed l =
    l.records ++ map (λ (r : SaveRow). new_record l.user l.number l.object r r.id) (unplaced (drop l.placed-index l.rows)) ≡ map (λ (r : SaveRow). new_record l.user l.number l.object r r.id) (unplaced l.rows)
