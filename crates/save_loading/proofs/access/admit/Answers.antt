use Rattle.save_loading.proofs.Loads.{may_change, may_not}
use Rattle.save_loading.proofs.access.admit.Goals as goal

pub returns-then-is_edit : goal.returns-then-is_edit
returns-then-is_edit c =
    may_change c.args.viewer.now c.args.one c.in-Going.pending c.get.result.now c.access.result c.is_edit.result c.in-Going.is c.get.ensures c.access.ensures c.is_edit.ensures c.if-is_edit.true

pub returns-else-is_edit : goal.returns-else-is_edit
returns-else-is_edit c =
    may_not c.args.viewer.now c.args.one c.in-Going.pending c.get.result.now c.access.result c.is_edit.result c.in-Going.is c.get.ensures c.access.ensures c.is_edit.ensures c.if-is_edit.false
