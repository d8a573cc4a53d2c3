use Rattle.std.proofs.Common.{rules}
use Rattle.turn_lock.proofs.Steps.{looks}
use Rattle.turn_lock.proofs.handles.TurnLock.take.Goals as goal

pub load-found-requires : goal.load-found-requires
load-found-requires g c = (search rules, search rules, looks _ _ _ _ _ _ _ _ _)
