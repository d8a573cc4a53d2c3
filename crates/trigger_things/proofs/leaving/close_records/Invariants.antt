use Rattle.std.proofs.Common.{◌≡◌, ◌-◌}
use Rattle.trigger_things.specs.Lefts.{closed}
use Rattle.trigger_things.proofs.leaving.close_records.Given as goal

abbrev pub invariant-close : goal.invariant-close
invariant-close l = closed (l.count - l.i) l.place l.heap ≡ closed l.count l.first l.fn.heap
