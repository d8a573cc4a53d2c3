use Rattle.std.proofs.Common.{◌≡◌, ◌++◌, take, map}
use Rattle.apex_meaning.specs.Firings.{listing}
use Rattle.compile_unit.specs.Ranks.{numbered_of}
use Rattle.compile_unit.proofs.firings.add_listings.Given as goal

abbrev pub invariant-loop-event : goal.invariant-loop-event
invariant-loop-event l = l.all ≡ l.fn.all ++ map (listing (numbered_of l.ranked)) (take l.event-index l.ranked.trigger.now.events)
