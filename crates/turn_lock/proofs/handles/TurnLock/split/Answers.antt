use Rattle.std.proofs.Common.{rules}
use Rattle.turn_lock.proofs.Steps.{splits}
use Rattle.turn_lock.proofs.handles.TurnLock.split.Goals as goal

pub split_seat-seat-requires : goal.split_seat-seat-requires
split_seat-seat-requires g c = (search rules, search rules, splits _ _ _ _ _ _ _)
