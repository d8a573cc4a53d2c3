-- What is to be shown of queries that find the Ids over their rows.
use Rattle.std.specs.Prelude.{◌≡◌, ℕ, List, ◌++◌, map}
use Rattle.apex_schema.specs.declared.schema.Mode.{Mode}
use Rattle.apex_schema.specs.declared.schema.Schema.{Schema}
use Rattle.apex_rows.specs.declared.query.Bind.{Bind}
use Rattle.apex_rows.specs.declared.query.Path.{Path}
use Rattle.apex_rows.specs.declared.query.Query.{Query}
use Rattle.apex_rows.specs.declared.query.Query.TheViews.{out-Query}
use Rattle.apex_rows.specs.declared.row.Row.{Row}
use Rattle.row_meaning.specs.Queries.{path_value, parent_cells}
use Rattle.query_meaning.specs.Parents.{parents_of}
use Rattle.query_records.specs.Shapes.{ways, id_over}

-- a query asks for the same parents as before, in the same order
abbrev pub ParentsStay : (Query → Query) → Type 0
ParentsStay with = (q : Query) → parents_of (with q) ≡ parents_of q

-- the values of a query's paths begin with the Ids over the row, one for each way, and go on as before
abbrev pub IdsComeFirst : (Query → Query) → Type 0
IdsComeFirst with =
    (schema : Schema) (share : ℕ) (rows : List Row) (binds : List Bind) (mode : Mode) (user : ℕ) (q : Query) (row : Row) →
    parent_cells schema share rows binds mode user (with q) row
    ≡ map (λ (way : Path). path_value schema rows row (id_over way)) (ways (out-Query q).paths) ++ parent_cells schema share rows binds mode user q row
