-- One level under another (docs/platform.md, "Saves").
use Rattle.std.specs.Prelude.{List, [], ◌++◌}
use Rattle.apex_requests.specs.declared.request.Ticket.{Ticket}
use Rattle.apex_schema.specs.declared.schema.Schema.{Schema}
use Rattle.apex_rows.specs.declared.row.Row.{Row}
use Rattle.row_meaning.specs.Overlays.{Overlay}
use Rattle.save_meaning.specs.Drafts.{with_ids}
use Rattle.save_meaning.specs.Inserts.{ids_of}
use Rattle.save_meaning.specs.Sites.{Site}
use Rattle.store_inquiries.specs.Inquiries.{Inquiry, Found, and_then}
use Rattle.store_inquiries.specs.Questions.{grab}
use Rattle.save_statements.specs.declared.pending.Naming.{Naming}
use Rattle.save_statements.specs.declared.pending.Record.{Record}
use Rattle.save_statements.specs.Records.{changed_to, going, judged, lookups, masters, rows_of}
use Rattle.save_statements.specs.Checks.{found_rows, joined, naming_all, referenced, with_under}

abbrev pub site_of : Schema → Ticket → Site
site_of schema ticket = record { schema = schema; ticket = ticket }

-- the rows that were found, which are held
abbrev pub held_rows : Ticket → List Row → Inquiry (List Row)
held_rows ticket rows = and_then (grab ticket (with_ids (ids_of rows) [])) (λ u. Found rows)

-- the rows under these
abbrev pub next_level : Ticket → Overlay → List Naming → List Row → Inquiry (List Row)
next_level ticket overlay namings rows = and_then (naming_all overlay namings rows) (λ found. held_rows ticket (found_rows found))

-- the records, where these levels go with them and these rows name what goes
abbrev pub settled_records : Schema → List (List Row) → List Record → List (Naming × List Row) → List Record
settled_records schema levels rs found = judged (referenced found (ids_of (rows_of (going rs) ++ joined levels))) (changed_to (with_under (masters schema) levels) rs)

-- what is found of the records behind the levels under them
abbrev pub with_levels : Schema → Overlay → List Record → List (List Row) → Inquiry (List Record)
with_levels schema overlay rs levels =
    and_then (naming_all overlay (lookups schema) (rows_of (going rs) ++ joined levels)) (λ found. Found (settled_records schema levels rs found))
