use Rattle.std.proofs.Common.{rules, sym, subst, take, ◌+◌}
use Rattle.record_store.specs.Places.{HasRoom}
use Rattle.record_store.proofs.Steps.{room_at}
use Rattle.record_store.proofs.rows.TenantRows.reserve.Goals as goal

pub loop-row-preserved : goal.loop-row-preserved
loop-row-preserved c = (
  let same = c.as_slice-row-items.ensures in
      subst (λ puts. HasRoom (take (c.loop-row.row-index + 1) puts) c.make_place.new.self) same
      (room_at c.as_slice-row-items.result.now c.loop-row.row-index c.row-item.result _ c.loop-row.self _ c.loop-row-test.true c.row-item.is
      (subst (λ puts. HasRoom (take c.loop-row.row-index puts) c.loop-row.self) (sym same) c.loop-row.invariant.0) c.make_place.ensures.stay c.in_ok-make_place.ensures.ready),
  search (rules),
)
