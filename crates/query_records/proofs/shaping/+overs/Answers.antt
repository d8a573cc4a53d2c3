use Rattle.std.proofs.Common.{arith}
use Rattle.query_records.proofs.Overs.{all_overs}
use Rattle.query_records.proofs.shaping.+overs.Goals as goal

pub overs_at-returns : goal.overs_at-returns
overs_at-returns t c = all_overs c.args.most c.args.followed.now c.args.selected.now c.args.way.now c.loop-id.id-index c.loop-id.overs (omega arith) (omega arith) c.loop-id.invariant
