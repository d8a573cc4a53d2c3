-- The firings of triggers in a save (docs/platform.md, "Saves").
use Rattle.std.specs.Prelude.{ℕ, Bool, List, [], ◌∷◌, ◌++◌, Option, None, Some}
use Rattle.apex_num.specs.declared.cell.Cell.{Cell}
use Rattle.platform_errors.specs.declared.record.RecordError.{RecordError}
use Rattle.platform_errors.specs.declared.record.RecordError.TheVariants as Error
use Rattle.apex_rows.specs.declared.row.Row.{Row}
use Rattle.apex_requests.specs.declared.request.Context.{Context}
use Rattle.save_meaning.specs.Drafts.{or_later}
use Rattle.save_statements.specs.declared.pending.Act.{Act}
use Rattle.save_statements.specs.declared.pending.Act.TheVariants.{Deleting}
use Rattle.save_statements.specs.declared.pending.Record.{Record}
use Rattle.save_statements.specs.declared.pending.Record.TheVariants.{Going, Wrong}
use Rattle.save_statements.specs.declared.firing.Trigger.{Trigger}
use Rattle.save_statements.specs.declared.firing.Left.{Left}
use Rattle.save_statements.specs.declared.firing.Fired.{Fired}
use Rattle.save_statements.specs.declared.firing.Fired.TheVariants.{Ran, Threw}
use Rattle.save_statements.specs.declared.firing.Entry.{Entry}
use Rattle.save_statements.specs.declared.firing.Entry.TheVariants.{Inside, Outside}
use Rattle.save_statements.specs.Records.{op_of, judged_by}

-- the records that enter, none with an error yet, among the others
abbrev pub entries : List Record → List Entry
entries [] = []
entries (Going p ∷ rs) = Inside p None ∷ entries rs
entries (Wrong e ∷ rs) = Outside e ∷ entries rs

-- the rows that a trigger has, and what they were
abbrev pub rows_in : List Entry → List Row
rows_in [] = []
rows_in (Inside p error ∷ es) = p.row ∷ rows_in es
rows_in (Outside e ∷ es) = rows_in es

abbrev pub old_row : Option Row → List Row
old_row None = []
old_row (Some row) = row ∷ []

abbrev pub olds_in : List Entry → List Row
olds_in [] = []
olds_in (Inside p error ∷ es) = old_row p.old ++ olds_in es
olds_in (Outside e ∷ es) = olds_in es

-- what a trigger sees
abbrev pub context : Act → Bool → List Entry → Context
context Deleting before es = record { op = op_of Deleting; before = before; news = []; olds = rows_in es }
context act before es = record { op = op_of act; before = before; news = rows_in es; olds = olds_in es }

abbrev pub custom : Option (List ℕ) → Option RecordError
custom None = None
custom (Some message) = Some (Error.Custom message)

-- a trigger changes cells of a row; the first one, which is the Id, stays as it was
abbrev pub cells_left : List Cell → List Cell → List Cell
cells_left [] cells = []
cells_left (id ∷ was) [] = id ∷ was
cells_left (id ∷ was) (c ∷ cells) = id ∷ cells

abbrev pub row_left : Row → Row → Row
row_left was row = record was { cells = cells_left was.cells row.cells }

-- the records as a trigger left them; the first error of each stays
abbrev pub all_left : List Left → List Entry → List Entry
all_left [] es = es
all_left (l ∷ ls) [] = []
all_left (l ∷ ls) (Inside p error ∷ es) = Inside (record p { row = row_left p.row l.row }) (or_later error (custom l.message)) ∷ all_left ls es
all_left (l ∷ ls) (Outside e ∷ es) = Outside e ∷ all_left (l ∷ ls) es

-- a trigger threw: that is the error of each record that has none
abbrev pub thrown_in : RecordError → List Entry → List Entry
thrown_in thrown [] = []
thrown_in thrown (Inside p error ∷ es) = Inside p (or_later error (Some thrown)) ∷ thrown_in thrown es
thrown_in thrown (Outside e ∷ es) = Outside e ∷ thrown_in thrown es

abbrev pub fired : Trigger → Fired → List Entry → List Entry
fired t (Ran left) es = all_left left es
fired t (Threw class message left) es = thrown_in (Error.InTrigger t.name class message) (all_left left es)

-- records with an error leave behind the phase
abbrev pub back : List Entry → List Record
back [] = []
back (Inside p error ∷ es) = judged_by p error ∷ back es
back (Outside e ∷ es) = Wrong e ∷ back es
