use Rattle.std.proofs.Common.{rules}
use Rattle.std.proofs.lemmas.List.{nil_from_length}
use Rattle.record_store.proofs.Steps.{put_next, drop_next, drops_end}
use Rattle.record_store.proofs.rows.TenantRows.apply.Goals as goal

pub loop-row-preserved : goal.loop-row-preserved
loop-row-preserved c = put_next _ _ c.in-Some.row _ _ _ c.in-Some.ensures.steps.0 c.loop-row.invariant c.put.ensures.rows c.put.ensures.stay

pub loop-id-preserved : goal.loop-id-preserved
loop-id-preserved c = drop_next _ _ c.in-Some-id.id c.loop-id.self c.drop_id.new.self _ c.in-Some-id.ensures.steps.0 c.loop-id.invariant c.drop_id.ensures.rows

pub returns : goal.returns
returns c = drops_end c.loop-id.id-iterator.rest.items _ _ (search (rules, nil_from_length)) c.loop-id.invariant
