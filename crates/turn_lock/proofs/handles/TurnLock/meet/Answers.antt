use Rattle.std.proofs.Common.{rules}
use Rattle.turn_lock.proofs.Steps.{joins, compares}
use Rattle.turn_lock.proofs.handles.TurnLock.meet.Goals as goal

pub join_seat-requires : goal.join_seat-requires
join_seat-requires g c = (search rules, search rules, search rules, search rules, joins _ _ _ _ _ _ _ _ _ c.requires.mine.2 c.requires.other.2 c.requires.mine.3)

pub load-requires : goal.load-requires
load-requires g c = (search rules, search rules, compares _ _ _ _ _ _ _ _ _)
