use Rattle.query_rows.proofs.Keys.{keyed_push, rows_moved}
use Rattle.query_rows.proofs.order.with_keys.Goals as goal

pub loop-row-preserved : goal.loop-row-preserved
loop-row-preserved c = (
  keyed_push _ _ _ _ _ c.in_ok-push.ensures.items c.in_ok-cells.ensures c.loop-row.invariant.0,
  rows_moved _ _ _ _ _ _ c.in_ok-push.ensures.items c.in-Some.ensures.steps.0 c.loop-row.invariant.1,
)
