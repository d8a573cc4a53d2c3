use Rattle.std.proofs.Common.{rules}
use Rattle.txn_overlay.proofs.Undoing.{nowhere}
use Rattle.txn_overlay.proofs.overlay.replace.Goals as goal

pub returns-in_default-clause-entries : goal.returns-in_default-clause-entries
returns-in_default-clause-entries c = search (rules, nowhere)
