use Rattle.std.proofs.Common.{◌≡◌, ◌++◌, ℕ, drop}
use Rattle.save_firings.specs.Tables.{all_listed, listed_at}
use Rattle.save_firings.proofs.table.by_object.Given as goal

abbrev pub invariant-loop-listing : goal.invariant-loop-listing
invariant-loop-listing l = (object : ℕ) → listed_at l.lists object ++ all_listed object l.act l.before (drop l.listing-index l.listings) ≡ all_listed object l.act l.before l.listings
