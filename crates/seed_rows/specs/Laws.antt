-- Laws of seeds (docs/formats.md, "Seeds").
use Rattle.std.specs.Prelude.{List, bytes_eq}
use Rattle.std.specs.List.{IsDistinct}
use Rattle.apex_schema.specs.declared.schema.Schema.{Schema}
use Rattle.apex_rows.specs.declared.row.Row.{Row}
use Rattle.row_meaning.specs.Stores.{AllRows}
use Rattle.schema_plans.specs.Validity.{IsValid}
use Rattle.seed_rows.specs.Written.{Written}
use Rattle.seed_rows.specs.Seeds.{IsSeed}
use Rattle.seed_rows.specs.Views.{ids_of}

-- the rows of a seed are rows of its schema
abbrev pub RowsAreOfSchema : Type 0
RowsAreOfSchema = (schema : Schema) (all : List Written) (rows : List Row) → IsValid schema → IsSeed schema all rows → AllRows schema rows

-- no two of them have one Id
abbrev pub IdsDiffer : Type 0
IdsDiffer = (schema : Schema) (all : List Written) (rows : List Row) → IsSeed schema all rows → IsDistinct bytes_eq (ids_of rows)
