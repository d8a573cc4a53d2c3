use Rattle.std.proofs.Common.{◌≡◌, [], drop, take}
use Rattle.class_walk.specs.Triggers.{events_walk}
use Rattle.class_walk.proofs.header.events.Given as goal

abbrev pub invariant-loop-i : goal.invariant-loop-i
invariant-loop-i l = events_walk (take l.i l.all) (drop l.i l.all) ≡ events_walk [] l.all
