use Rattle.std.proofs.Common.{◌≡◌, [], drop}
use Rattle.save_meaning.specs.Drafts.{with_ids}
use Rattle.save_statements.specs.Loading.{given_ids}
use Rattle.save_statements.specs.Statements.{unplaced}
use Rattle.save_loading.proofs.old_rows.given_ids.Given as goal

abbrev pub invariant-loop-placed : goal.invariant-loop-placed
invariant-loop-placed l = with_ids (given_ids (unplaced (drop l.placed-index l.rows))) l.ids ≡ with_ids (given_ids (unplaced l.rows)) []
