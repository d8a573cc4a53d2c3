use Rattle.std.proofs.Common.{◌≡◌, drop}
use Rattle.save_statements.specs.Moves.{without}
use Rattle.save_stages.proofs.writing.remove_all.Given as goal

abbrev pub invariant-loop-id : goal.invariant-loop-id
invariant-loop-id l = without (drop l.id-index l.ids) l.txn ≡ without l.ids l.fn.txn
