use Rattle.query_finding.specs.Steps.{under_row}
use Rattle.query_finding.proofs.Lists.{map_more}
use Rattle.query_finding.proofs.under.lists_under.Goals as goal

pub loop-one-preserved : goal.loop-one-preserved
loop-one-preserved c =
    map_more (under_row c.args.schema.now c.args.binds.now c.args.row.now) c.args.under.now c.loop-one.one-index c.one-item.result c.loop-one.lists c.push.new.self _ c.in_ok-children.field-0 c.loop-one-test.true c.one-item.is
    c.in_ok-children.ensures c.in_ok-push.ensures.ok c.loop-one.invariant
