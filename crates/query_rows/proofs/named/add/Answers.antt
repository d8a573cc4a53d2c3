use Rattle.std.proofs.Common.{◌∙◌}
use Rattle.query_rows.proofs.RisingIds.{insert_is}
use Rattle.query_rows.proofs.named.add.Goals as goal

pub returns-in-Ok : goal.returns-in-Ok
returns-in-Ok c = c.in-Ok.ensures.keys ∙ insert_is c.args.id c.args.ids.now.keys
