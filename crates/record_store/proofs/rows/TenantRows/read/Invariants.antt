use Rattle.std.proofs.Common.{◌≡◌, [], map}
use Rattle.std.specs.Map.Iter.{deref_pair}
use Rattle.row_meaning.specs.Stores.{answer}
use Rattle.row_conditions.specs.Prepared.{IsPrepared}
use Rattle.record_store.specs.Places.{rows_of}
use Rattle.record_store.proofs.rows.TenantRows.read.Given as goal

abbrev pub invariant-loop-slot : goal.invariant-loop-slot
invariant-loop-slot l = record {
  seen : l.rows ≡ answer (rows_of (map deref_pair l.yielded)) l.object l.cond;
  prepared : IsPrepared [] l.cond l.prepared;
}
