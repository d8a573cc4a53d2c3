-- The parts of loading.
use Rattle.std.specs.Prelude.{ℕ, not, List, map, Option, Some}
use Rattle.apex_num.specs.declared.cell.Cell.{Cell}
use Rattle.platform_errors.specs.declared.record.RecordError.{RecordError}
use Rattle.platform_errors.specs.declared.record.RecordError.TheVariants as Error
use Rattle.apex_schema.specs.declared.schema.Field.{Field}
use Rattle.apex_schema.specs.declared.schema.Object.{Object}
use Rattle.apex_rows.specs.declared.row.Row.{Row}
use Rattle.apex_requests.specs.declared.request.SaveRow.{SaveRow}
use Rattle.apex_requests.specs.declared.request.Ticket.{Ticket}
use Rattle.row_access.specs.Views.{View, access_of}
use Rattle.row_meaning.specs.Overlays.{Overlay}
use Rattle.save_meaning.specs.Sites.{Site}
use Rattle.save_meaning.specs.Drafts.{when}
use Rattle.save_meaning.specs.Inserts.{ids_of}
use Rattle.store_inquiries.specs.Inquiries.{Inquiry, Found, and_then}
use Rattle.store_inquiries.specs.Questions.{grab}
use Rattle.save_statements.specs.declared.pending.Act.{Act}
use Rattle.save_statements.specs.declared.pending.Manner.{Manner}
use Rattle.save_statements.specs.declared.pending.Pending.{Pending}
use Rattle.save_statements.specs.declared.pending.Record.{Record}
use Rattle.save_statements.specs.declared.pending.Record.TheVariants.{Going, Wrong}
use Rattle.save_statements.specs.declared.statement.Placed.{Placed}
use Rattle.save_statements.specs.Records.{pending, judged_by, going, rows_of}
use Rattle.save_statements.specs.Loading.{old_record, is_edit, admitted, is_taken, next_cell, next_cells, next_records}

-- ---- access

-- who looks at the rows may not change this one
abbrev pub denied : View → Pending → Option RecordError
denied v p = when (not (is_edit (access_of v p.row))) Error.NoAccess

-- a record that goes on is looked at
abbrev pub judged_one : (Pending → Option RecordError) → Record → Record
judged_one test (Going p) = judged_by p (test p)
judged_one test (Wrong e) = Wrong e

-- ---- the cells of an update

-- the cell of a field, where there is one, by what is known of it
abbrev pub next_at : Manner → ℕ → Option Field → Cell → Option (Option Cell) → Cell
next_at by n (Some f) c (Some k) = next_cell (is_taken by n f) c k
next_at by n _ c _ = c

-- the row that an update makes of one
abbrev pub next_by : Manner → Object → List (Option Cell) → Row → Pending
next_by by o known row = pending (record row { cells = next_cells by 0 o.fields row.cells known }) (Some row)

-- what an update makes of a record, where there is one to save in its place
abbrev pub next_placed : Manner → Object → Option Placed → Record → Record
next_placed by o (Some placed) (Going p) = Going (next_by by o placed.row.cells p.row)
next_placed by o _ d = d

-- ---- rows that are there

-- the rows that go on are held, and become what an update makes of them
abbrev pub held : Ticket → Act → Manner → Object → List SaveRow → List Record → Inquiry (List Record)
held ticket act by o rows rs = and_then (grab ticket (ids_of (rows_of (going rs)))) (λ u. Found (next_records act by o rows rs))

-- what follows the rows that were found
abbrev pub behind_found : Site → Overlay → Act → Manner → Object → List SaveRow → List Row → Inquiry (List Record)
behind_found site overlay act by o rows found =
    and_then (admitted site overlay by o (map (λ (r : SaveRow). old_record found r.id) rows)) (λ rs. held site.ticket act by o rows rs)
