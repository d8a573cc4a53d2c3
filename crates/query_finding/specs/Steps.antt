-- The parts of a query that finds its rows (docs/platform.md, "Queries").
use Rattle.std.specs.Prelude.{ℕ, ◌&&◌, Bool, true, List, [], ◌∷◌, map, filter, Option, None, Some}
use Rattle.apex_schema.specs.declared.schema.Mode.{Mode}
use Rattle.apex_schema.specs.declared.schema.Schema.{Schema}
use Rattle.apex_requests.specs.declared.request.Ticket.{Ticket}
use Rattle.apex_rows.specs.declared.query.Bind.{Bind}
use Rattle.apex_rows.specs.declared.query.Cond.{Cond}
use Rattle.apex_rows.specs.declared.query.Query.{Query}
use Rattle.apex_rows.specs.declared.query.Query.TheViews.{out-Query, out-SubQuery}
use Rattle.apex_rows.specs.declared.query.SubQuery.{SubQuery}
use Rattle.apex_rows.specs.declared.row.Row.{Row}
use Rattle.apex_rows.specs.declared.row.Child.{Child}
use Rattle.apex_rows.specs.declared.row.Found.{Found}
use Rattle.row_meaning.specs.Accesses.{access}
use Rattle.row_meaning.specs.Conds.{cell_of, holds}
use Rattle.row_meaning.specs.Overlays.{Overlay}
use Rattle.row_meaning.specs.Queries.{is_visible, path_value}
use Rattle.save_meaning.specs.Sites.{Site}
use Rattle.save_meaning.specs.Inserts.{ids_of}
use Rattle.store_inquiries.specs.Inquiries.{Inquiry, Found as Done, and_then}
use Rattle.store_inquiries.specs.Questions.{rising, within, row_share, shares_on, rows_for}
use Rattle.query_meaning.specs.Queries.{Gathered, is_among, is_hidden, shown_by}
use Rattle.query_rows.specs.Cuts.{children_of, parent_cells}
use Rattle.query_rows.specs.Families.{family}

abbrev pub site_of : Schema → Ticket → Site
site_of schema ticket = record { schema = schema; ticket = ticket }

-- ---- which rows are wanted

-- those of which a field, where one is given, is one of these Ids
abbrev pub test_of : Option ℕ → List (List ℕ) → Row → Bool
test_of None ids row = true
test_of (Some field) ids row = is_among ids (cell_of row field)

-- as a store is asked for them
abbrev pub further_of : Option ℕ → List (List ℕ) → List Cond
further_of None ids = []
further_of (Some field) ids = within field ids ∷ []

-- those that pass a test and meet the whole condition of a query, where these rows are known
abbrev pub kept : Schema → List Bind → Query → (Row → Bool) → List Row → List Row → List Row
kept schema binds q test rows known = filter (λ (r : Row). test r && holds binds (path_value schema known r) (out-Query q).cond) rows

-- ---- sharing

-- the rows that the user sees by what is shared, which is asked for
abbrev pub looked_at : Site → Overlay → List Row → Inquiry (List Row)
looked_at site overlay rows =
    and_then (rows_for overlay (row_share site.schema) (shares_on (rising (ids_of rows)) site.ticket.user)) (λ shares.
    Done (filter (λ (r : Row). is_visible (access site.schema site.ticket.user r shares)) rows))

-- what follows the rows over the rows of a query
abbrev pub behind_parents : Site → Overlay → Mode → List Bind → Query → (Row → Bool) → List Row → List Row → Inquiry Gathered
behind_parents site overlay mode binds q test rows known =
    and_then (shown_by site overlay (is_hidden site overlay mode (out-Query q).object) (kept site.schema binds q test rows known)) (λ seen. Done (record { rows = seen; known = known }))

-- ---- rows under rows

-- what a subquery found under one row, cut for it alone
abbrev pub under_row : Schema → List Bind → Row → SubQuery × Gathered → List Child
under_row schema binds row u =
    children_of (record { schema = schema; known = u.1.known }) binds (out-SubQuery u.0).query (family (out-SubQuery u.0).lookup u.1.rows row.id)

-- a row that was found, with the values of its paths and the rows under it
abbrev pub found_of : Schema → List Bind → Query → List Row → List (SubQuery × Gathered) → Row → Found
found_of schema binds q known under row = record {
  row = row;
  paths = parent_cells (record { schema = schema; known = known }) (out-Query q).paths row;
  children = map (under_row schema binds row) under;
}
