-- One record in a phase of triggers (docs/platform.md, "Saves").
use Rattle.std.specs.Prelude.{None, Some}
use Rattle.platform_errors.specs.declared.record.RecordError.{RecordError}
use Rattle.save_meaning.specs.Drafts.{or_later}
use Rattle.save_statements.specs.declared.pending.Record.{Record}
use Rattle.save_statements.specs.declared.pending.Record.TheVariants.{Going, Wrong}
use Rattle.save_statements.specs.declared.firing.Entry.{Entry}
use Rattle.save_statements.specs.declared.firing.Entry.TheVariants.{Inside, Outside}
use Rattle.save_statements.specs.Records.{judged_by}

-- a record that enters
abbrev pub entered : Record → Entry
entered (Going p) = Inside p None
entered (Wrong e) = Outside e

-- one that has an error leaves behind the phase
abbrev pub left_behind : Entry → Record
left_behind (Inside p error) = judged_by p error
left_behind (Outside e) = Wrong e

-- the trigger threw
abbrev pub thrown_one : RecordError → Entry → Entry
thrown_one thrown (Inside p error) = Inside p (or_later error (Some thrown))
thrown_one thrown (Outside e) = Outside e
