use Rattle.std.proofs.Common.{sym}
use Rattle.row_access.proofs.Ascents.{stands_above}
use Rattle.row_access.proofs.roles.is_above.Goals as goal

pub returns-in-After : goal.returns-in-After
returns-in-After c = sym (stands_above c.args.roles.now c.args.wanted c.in-After.field-0 c.args.from c.in-After.ensures)
