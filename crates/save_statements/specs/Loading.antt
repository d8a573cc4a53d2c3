-- How the records of a chunk become rows on their way (docs/platform.md, "Saves").
use Rattle.std.specs.Prelude.{ℕ, suc, ◌||◌, ◌&&◌, not, eqb, Bool, true, false, List, [], ◌∷◌, ◌++◌, map, Option, None, Some}
use Rattle.apex_num.specs.declared.cell.Cell.{Cell}
use Rattle.platform_errors.specs.declared.record.RecordError.{RecordError}
use Rattle.platform_errors.specs.declared.record.RecordError.TheVariants as Error
use Rattle.apex_schema.specs.declared.schema.Access.{Access}
use Rattle.apex_schema.specs.declared.schema.Access.TheVariants.{Edit}
use Rattle.apex_schema.specs.declared.schema.FieldKind.{FieldKind}
use Rattle.apex_schema.specs.declared.schema.FieldKind.TheVariants as Kind
use Rattle.apex_schema.specs.declared.schema.Field.{Field}
use Rattle.apex_schema.specs.declared.schema.Mode.TheVariants.{Sharing}
use Rattle.apex_schema.specs.declared.schema.Object.{Object}
use Rattle.apex_rows.specs.declared.query.Question.TheVariants.{Read}
use Rattle.apex_rows.specs.declared.row.Row.{Row}
use Rattle.apex_requests.specs.declared.request.SaveRow.{SaveRow}
use Rattle.row_meaning.specs.Accesses.{access}
use Rattle.row_meaning.specs.Overlays.{Overlay, merged}
use Rattle.row_meaning.specs.Stores.{find}
use Rattle.save_meaning.specs.Sites.{Site}
use Rattle.save_meaning.specs.Drafts.{when, new_cells, no_id, with_ids, untouched}
use Rattle.save_meaning.specs.Inserts.{rows_of_answer, ids_of}
use Rattle.store_inquiries.specs.Inquiries.{Inquiry, Found, Asked, and_then}
use Rattle.store_inquiries.specs.Questions.{row_share, shares_on, rows_by, grab}
use Rattle.save_statements.specs.declared.pending.Act.{Act}
use Rattle.save_statements.specs.declared.pending.Act.TheVariants.{Inserting, Updating}
use Rattle.save_statements.specs.declared.pending.Manner.{Manner}
use Rattle.save_statements.specs.declared.pending.Manner.TheVariants.{ByCode, ByRollUps}
use Rattle.save_statements.specs.declared.pending.Pending.{Pending}
use Rattle.save_statements.specs.declared.pending.Record.{Record}
use Rattle.save_statements.specs.declared.pending.Record.TheVariants.{Going, Wrong}
use Rattle.save_statements.specs.Records.{pending, judged, going, rows_of}

-- ---- new rows

abbrev pub new_record : ℕ → ℕ → Object → SaveRow → Option (List ℕ) → Record
new_record user object o r (Some id) = Wrong Error.IdInInsert
new_record user object o r None = Going (pending (record { object = object; id = no_id; cells = new_cells user 0 o.fields r.cells }) None)

-- ---- rows that are there

-- the row of an Id that is given
abbrev pub found_record : Option Row → Record
found_record None = Wrong Error.NoSuchRow
found_record (Some row) = Going (pending row None)

abbrev pub old_record : List Row → Option (List ℕ) → Record
old_record rows None = Wrong Error.NoId
old_record rows (Some id) = found_record (find rows id)

abbrev pub given_id : Option (List ℕ) → List (List ℕ)
given_id None = []
given_id (Some id) = id ∷ []

abbrev pub given_ids : List SaveRow → List (List ℕ)
given_ids [] = []
given_ids (r ∷ rs) = given_id r.id ++ given_ids rs

-- ---- access

-- who saves for code in sharing mode must have access, unless everybody has
abbrev pub is_edit : Access → Bool
is_edit Edit = true
is_edit _ = false

abbrev pub is_checked : Manner → Object → Bool
is_checked (ByCode Sharing) o = not (is_edit o.default)
is_checked _ o = false

abbrev pub no_access : Site → List Row → Pending → Option RecordError
no_access site shares p = when (not (is_edit (access site.schema site.ticket.user p.row shares))) Error.NoAccess

abbrev pub admitted_by : Site → Overlay → Bool → List (List ℕ) → List Record → Inquiry (List Record)
admitted_by site overlay true (i ∷ is) rs =
    Asked (Read (row_share site.schema) (shares_on (i ∷ is) site.ticket.user))
    (λ a. Found (judged (no_access site (merged overlay (row_share site.schema) (rows_of_answer a))) rs))
admitted_by site overlay _ _ rs = Found rs

abbrev pub admitted : Site → Overlay → Manner → Object → List Record → Inquiry (List Record)
admitted site overlay by o rs = admitted_by site overlay (is_checked by o) (with_ids (ids_of (rows_of (going rs))) []) rs

-- ---- the cells of an update

-- a cell of a row that is there: what the record knows; its Id never, and a roll-up only where it is that which changed
abbrev pub is_roll_up : FieldKind → Bool
is_roll_up (Kind.Rollup rollup) = true
is_roll_up _ = false

abbrev pub for_roll_ups : Manner → Bool
for_roll_ups (ByCode mode) = false
for_roll_ups ByRollUps = true

abbrev pub is_taken : Manner → ℕ → Field → Bool
is_taken by n f = not (eqb n 0) && (not (is_roll_up f.kind) || for_roll_ups by)

abbrev pub next_cell : Bool → Cell → Option Cell → Cell
next_cell true was (Some c) = c
next_cell _ was _ = was

abbrev pub next_cells : Manner → ℕ → List Field → List Cell → List (Option Cell) → List Cell
next_cells by n (f ∷ fs) (c ∷ cs) (k ∷ ks) = next_cell (is_taken by n f) c k ∷ next_cells by (suc n) fs cs ks
next_cells by n fs cs ks = cs

abbrev pub next_row : Act → Manner → Object → SaveRow → Pending → Pending
next_row Updating by o r p = pending (record (p.row) { cells = next_cells by 0 o.fields p.row.cells r.cells }) (Some p.row)
next_row _ by o r p = p

abbrev pub next_record : Act → Manner → Object → SaveRow → Record → Record
next_record act by o r (Going p) = Going (next_row act by o r p)
next_record act by o r (Wrong e) = Wrong e

abbrev pub next_records : Act → Manner → Object → List SaveRow → List Record → List Record
next_records act by o (r ∷ rs) (d ∷ ds) = next_record act by o r d ∷ next_records act by o rs ds
next_records act by o _ ds = ds

-- ---- where the request runs, and what the transaction changed so far

module _ (site : Site) (overlay : Overlay) where
  -- the rows of an update or a delete: they are read, access is looked at, and they are held
  abbrev pub load_old : Act → Manner → ℕ → Object → List SaveRow → Inquiry (List Record)
  load_old act by object o rows =
      and_then (rows_by overlay object (untouched overlay (with_ids (given_ids rows) []))) (λ found.
      and_then (admitted site overlay by o (map (λ (r : SaveRow). old_record found r.id) rows)) (λ rs.
      and_then (grab site.ticket (ids_of (rows_of (going rs)))) (λ u. Found (next_records act by o rows rs))))

  abbrev pub load : Act → Manner → ℕ → Object → List SaveRow → Inquiry (List Record)
  load Inserting by object o rows = Found (map (λ (r : SaveRow). new_record site.ticket.user object o r r.id) rows)
  load act by object o rows = load_old act by object o rows
