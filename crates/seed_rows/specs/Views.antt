-- What contracts see of rows that are borrowed, and of checks.
use Rattle.std.specs.Prelude.{ℕ, List, map}
use Rattle.apex_rows.specs.declared.row.Row.{Row}
use Rattle.seed_rows.specs.declared.cells.Check.{Check}
use Rattle.seed_rows.specs.declared.cells.Check.TheVariants as Checks
use Rattle.seed_rows.specs.declared.written.WrittenRow.{WrittenRow}
use Rattle.seed_rows.specs.Written.{Written}
use Rattle.seed_rows.specs.Words.{Test, TooLong, Lacking, Dangling}

abbrev pub as_written : WrittenRow → Written
as_written w = record { object = w.object; name = w.name.now; cells = w.cells.now }

abbrev pub all_as_written : List WrittenRow → List Written
all_as_written ws = map as_written ws

abbrev pub test_of : List Written → Check → Test
test_of all Checks.TooLong = TooLong
test_of all Checks.Lacking = Lacking
test_of all Checks.Dangling = Dangling all

abbrev pub ids_of : List Row → List (List ℕ)
ids_of rows = map (λ (r : Row). r.id) rows
