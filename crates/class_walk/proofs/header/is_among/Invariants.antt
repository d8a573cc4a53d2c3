use Rattle.std.proofs.Common.{◌≡◌, drop}
use Rattle.std.specs.List.{list_any}
use Rattle.class_walk.specs.Triggers.{same_event}
use Rattle.class_walk.proofs.header.is_among.Given as goal

abbrev pub invariant-loop-one : goal.invariant-loop-one
invariant-loop-one l = list_any (same_event l.event) (drop l.one-index l.events) ≡ list_any (same_event l.event) l.events
