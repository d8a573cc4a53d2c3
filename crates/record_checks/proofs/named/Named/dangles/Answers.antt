use Rattle.record_checks.proofs.Rows.{dangles_is}
use Rattle.record_checks.proofs.named.Named.dangles.Goals as goal

pub returns-in-Id : goal.returns-in-Id
returns-in-Id c = dangles_is c.args.self.now.1 c.args.cell.now c.in-Id.id c.has.result c.in-Id.is c.has.ensures
