-- Ids that paths name over rows (docs/platform.md, "Queries").
use Rattle.std.specs.Prelude.{ℕ, List}
use Rattle.std.specs.List.{flat_map}
use Rattle.apex_rows.specs.declared.query.Path.{Path}
use Rattle.apex_rows.specs.declared.row.Row.{Row}
use Rattle.save_meaning.specs.Drafts.{id_in}
use Rattle.query_rows.specs.Read.{Read, value_of}

-- those that a path names, row by row
abbrev pub named_over : Read → Path → List Row → List (List ℕ)
named_over read path rows = flat_map (λ (r : Row). id_in (value_of read r path)) rows
