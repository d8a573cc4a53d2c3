use Rattle.seed_rows.proofs.Steps.{user_some, user_none}
use Rattle.seed_rows.proofs.cells.is_user.Goals as goal

pub returns-in-Some : goal.returns-in-Some
returns-in-Some c = user_some c.args.users c.args.id.now c.in-Some.number c.requires c.in-Some.ensures

pub returns-in-None : goal.returns-in-None
returns-in-None c = user_none c.args.users c.args.id.now c.requires c.in-None.ensures
