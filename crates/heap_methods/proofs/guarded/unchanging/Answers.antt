use Rattle.heap_methods.proofs.Unchanged.{planned_stays, failed_stays}
use Rattle.heap_methods.proofs.guarded.unchanging.Goals as goal

pub returns-in-Ok : goal.returns-in-Ok
returns-in-Ok c = λ o thing p. planned_stays o thing c.args.plan c.in-Ok.field-0 c.read_only.result c.in-Ok.is c.read_only.ensures p

pub returns : goal.returns
returns c = λ o thing p. c.unchanging_end.ensures o (failed_stays o thing c.args.plan c.in-Err.end c.in-Err.is p)
