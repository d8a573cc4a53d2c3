use Rattle.std.proofs.Common.{◌∙◌}
use Rattle.delete_cascades.proofs.Under.{under_none}
use Rattle.delete_cascades.proofs.level.found_under.Goals as goal

pub loop-id-init : goal.loop-id-init
loop-id-init c = c.new-found.ensures.empty ∙ under_none c.args.rows.now 0
