-- What a query takes of the rows that it found (docs/platform.md, "Queries").
use Rattle.std.specs.Prelude.{not, List, map, filter}
use Rattle.apex_num.specs.declared.cell.Cell.{Cell}
use Rattle.apex_rows.specs.declared.query.Bind.{Bind}
use Rattle.apex_rows.specs.declared.query.Path.{Path}
use Rattle.apex_rows.specs.declared.query.Query.{Query}
use Rattle.apex_rows.specs.declared.query.Query.TheViews.{out-Query}
use Rattle.apex_rows.specs.declared.row.Row.{Row}
use Rattle.apex_rows.specs.declared.row.Child.{Child}
use Rattle.row_meaning.specs.Cells.{is_empty}
use Rattle.row_meaning.specs.Queries.{row_cmp, sorted, count_of, limited, skipped}
use Rattle.query_rows.specs.Read.{Read, value_of}

-- in order, without the first OFFSET ones, LIMIT at the most
abbrev pub cut_of : Read → List Bind → Query → List Row → List Row
cut_of read binds q rows = limited (count_of binds (out-Query q).limit) (skipped (count_of binds (out-Query q).offset) (sorted (row_cmp (value_of read) (out-Query q).keys) rows))

-- the values of the paths of more than one name
abbrev pub parent_cells : Read → List Path → Row → List Cell
parent_cells read paths row = map (value_of read row) (filter (λ (p : Path). not (is_empty p.parents)) paths)

-- rows of a subquery with these values
abbrev pub children_with : Read → List Path → List Row → List Child
children_with read paths rows = map (λ (c : Row). record { row = c; paths = parent_cells read paths c }) rows

abbrev pub children_of : Read → List Bind → Query → List Row → List Child
children_of read binds q rows = children_with read (out-Query q).paths (cut_of read binds q rows)
