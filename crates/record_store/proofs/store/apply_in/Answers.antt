use Rattle.std.proofs.Common.{rules}
use Rattle.record_store.proofs.HeapSteps.{nothing_taken}
use Rattle.record_store.proofs.store.apply_in.Goals as goal

pub returns-in_default-clause-own : goal.returns-in_default-clause-own
returns-in_default-clause-own c = search (rules, nothing_taken)
