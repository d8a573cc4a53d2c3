use Rattle.std.proofs.Common.{rules}
use Rattle.record_store.proofs.Steps.{nowhere}
use Rattle.record_store.proofs.rows.write.Goals as goal

pub returns-in_default-clause-entries : goal.returns-in_default-clause-entries
returns-in_default-clause-entries c = search (rules, nowhere)
