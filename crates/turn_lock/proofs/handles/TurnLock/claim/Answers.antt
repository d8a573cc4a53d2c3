use Rattle.std.proofs.Common.{rules}
use Rattle.turn_lock.proofs.Steps.{claims_from}
use Rattle.turn_lock.proofs.handles.TurnLock.claim.Goals as goal

pub compare_exchange-requires : goal.compare_exchange-requires
compare_exchange-requires g c = (search rules, search rules, claims_from _ _ _ _ _ _ _ _ _ c.requires.idle.0 c.requires.even c.requires.numbered c.requires.living)
