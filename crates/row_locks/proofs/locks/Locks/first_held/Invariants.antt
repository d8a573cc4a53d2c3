use Rattle.std.proofs.Common.{take}
use Rattle.row_locks.specs.Holders.{NoneHeld}
use Rattle.row_locks.specs.Locks.{holder_of}
use Rattle.row_locks.proofs.locks.Locks.first_held.Given as goal

abbrev pub invariant-ids : goal.invariant-ids
invariant-ids l = NoneHeld (holder_of l.tenant l.self.locks) l.session (take l.k l.ids)
