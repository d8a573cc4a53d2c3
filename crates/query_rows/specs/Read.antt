-- What values of paths are read from (docs/platform.md, "Queries").
use Rattle.std.specs.Prelude.{ℕ, List}
use Rattle.apex_num.specs.declared.cell.Cell.{Cell}
use Rattle.apex_schema.specs.declared.schema.Schema.{Schema}
use Rattle.apex_rows.specs.declared.query.Path.{Path}
use Rattle.apex_rows.specs.declared.row.Row.{Row}
use Rattle.row_meaning.specs.Queries.{path_value}

-- a schema, and the rows over other rows
pub record Read : Type 0 where
  pub schema : Schema
  pub known : List Row

-- the value of a path
abbrev pub value_of : Read → Row → Path → Cell
value_of read row path = path_value read.schema read.known row path
