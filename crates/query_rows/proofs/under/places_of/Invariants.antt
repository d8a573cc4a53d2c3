use Rattle.std.proofs.Common.{◌≡◌, ℕ, List, take}
use Rattle.query_rows.specs.Families.{at_places, family, places_in}
use Rattle.query_rows.proofs.under.places_of.Given as goal

abbrev pub invariant-loop-i : goal.invariant-loop-i
invariant-loop-i l = (id : List ℕ) → at_places l.rows (places_in l.places id) ≡ family l.lookup (take l.i l.rows) id
