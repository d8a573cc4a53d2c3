-- One record that is looked at (docs/platform.md, "Saves").
use Rattle.std.specs.Prelude.{ℕ, List, [], cond, Option}
use Rattle.platform_errors.specs.declared.record.RecordError.{RecordError}
use Rattle.row_meaning.specs.Conds.{cell_of}
use Rattle.save_meaning.specs.Drafts.{id_in}
use Rattle.save_statements.specs.declared.pending.Pending.{Pending}
use Rattle.save_statements.specs.declared.pending.Record.{Record}
use Rattle.save_statements.specs.declared.pending.Record.TheVariants.{Going, Wrong}
use Rattle.save_statements.specs.Records.{judged_by}
use Rattle.save_statements.specs.Checks.{is_looked_up, seen_now}

-- the Id that a field of a record names, where it is looked up
abbrev pub named_by : ℕ → Pending → List (List ℕ)
named_by field p = cond (is_looked_up field p) (id_in (cell_of p.row field)) []

abbrev pub looked : (Pending → Option RecordError) → Record → Record
looked test (Going p) = judged_by p (test p)
looked test (Wrong e) = Wrong e

-- the references of one that goes on were looked up just now
abbrev pub referred : Record → Record
referred (Going p) = Going (seen_now p)
referred (Wrong e) = Wrong e
