-- What a record leads to, field by field.
use Rattle.std.specs.Prelude.{ℕ, List}
use Rattle.apex_rows.specs.declared.query.Path.{Path}
use Rattle.query_records.specs.Shapes.{behind, cells_at, overs_at}
use Rattle.query_records.specs.declared.shape.Over.{Over}
use Rattle.query_records.specs.declared.shape.Over.TheViews.{roll-Over}

-- by a followed field, over at most n fields more
abbrev pub over_of : ℕ → List (ℕ × Path) → List (ℕ × Path) → ℕ × Path → Over
over_of n followed selected f = roll-Over (record { field = f.1.field; id = f.0; cells = cells_at selected (behind f.1); over = overs_at n followed selected (behind f.1) })
