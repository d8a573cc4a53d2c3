use Rattle.std.proofs.Common.{◌≡◌, ◌++◌, drop, map}
use Rattle.apex_meaning.specs.Firings.{listings_of}
use Rattle.compile_unit.specs.Ranks.{numbered_of}
use Rattle.compile_unit.proofs.firings.listings.Given as goal

abbrev pub invariant-loop-ranked : goal.invariant-loop-ranked
invariant-loop-ranked l = l.all ++ listings_of (map numbered_of (drop l.ranked-index l.triggers)) ≡ listings_of (map numbered_of l.triggers)
