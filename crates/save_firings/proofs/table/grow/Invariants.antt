use Rattle.std.proofs.Common.{◌≡◌, ◌+◌, ◌-◌, ℕ, length}
use Rattle.save_firings.specs.Tables.{listed_at}
use Rattle.save_firings.proofs.table.grow.Given as goal

abbrev pub invariant-more : goal.invariant-more
invariant-more l = (other : ℕ) → listed_at l.lists other ≡ listed_at l.fn.lists other

abbrev pub decreases-more : goal.decreases-more
decreases-more l = l.object + 1 - length l.lists
