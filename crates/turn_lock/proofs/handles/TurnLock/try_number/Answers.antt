use Rattle.std.proofs.Common.{rules}
use Rattle.turn_lock.proofs.Steps.{numbers}
use Rattle.turn_lock.proofs.handles.TurnLock.try_number.Goals as goal

pub compare_exchange-requires : goal.compare_exchange-requires
compare_exchange-requires g c = (search rules, search rules, numbers _ _ _ _ _ _ _ _ _ c.requires.below c.requires.idle.0 c.requires.living)
