use Rattle.std.proofs.Common.{◌≡◌, ℕ, None}
use Rattle.row_access.specs.Ranks.{AllTell, known_at}
use Rattle.row_access.proofs.ranks.ranks_of.Given as goal

abbrev pub invariant-loop : goal.invariant-loop
invariant-loop l = (from : ℕ) → known_at l.ranks.items from ≡ None

abbrev pub invariant-loop-i : goal.invariant-loop-i
invariant-loop-i l = AllTell l.roles l.wanted l.ranks.items
