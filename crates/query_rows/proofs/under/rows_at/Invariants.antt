use Rattle.std.proofs.Common.{◌≡◌, ◌++◌, drop}
use Rattle.query_rows.specs.Families.{at_places}
use Rattle.query_rows.proofs.under.rows_at.Given as goal

abbrev pub invariant-loop-place : goal.invariant-loop-place
invariant-loop-place l = l.all.items ++ at_places l.rows (drop l.place-index l.places) ≡ at_places l.rows l.places
