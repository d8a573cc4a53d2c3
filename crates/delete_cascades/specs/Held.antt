-- Rows that are held by the rows that name them (docs/platform.md, "Saves").
use Rattle.std.specs.Prelude.{ℕ, ◌&&◌, ◌||◌, not, Bool, false, List, [], ◌∷◌}
use Rattle.std.specs.List.{list_any}
use Rattle.platform_errors.specs.declared.record.RecordError.TheVariants as Error
use Rattle.apex_rows.specs.declared.row.Row.{Row}
use Rattle.save_meaning.specs.Drafts.{when}
use Rattle.save_statements.specs.declared.pending.Naming.{Naming}
use Rattle.save_statements.specs.declared.pending.Pending.{Pending}
use Rattle.save_statements.specs.declared.pending.Record.{Record}
use Rattle.save_statements.specs.declared.pending.Record.TheVariants.{Going, Wrong}
use Rattle.save_statements.specs.Records.{judged_by, names_one}
use Rattle.delete_cascades.specs.Layers.{Layer, all_below}

-- a row that stays names this one by a field; a test says which rows go
abbrev pub holds : (List ℕ → Bool) → Naming → List ℕ → Row → Bool
holds goes naming id row = not (goes row.id) && names_one naming.field (id ∷ []) row

abbrev pub held_by : (List ℕ → Bool) → List (Naming × List Row) → List ℕ → Bool
held_by goes [] id = false
held_by goes (q ∷ qs) id = list_any (holds goes q.0 id) q.1 || held_by goes qs id

-- a record with all that goes with it, where none of that is held; a test says what is held
abbrev pub settled_one : List Layer → (List ℕ → Bool) → Pending → Record
settled_one layers is_held p =
    judged_by (record p { under = all_below layers (p.row.id ∷ []) }) (when (list_any is_held (all_below layers (p.row.id ∷ []))) Error.Referenced)

abbrev pub settled_record : List Layer → (List ℕ → Bool) → Record → Record
settled_record layers is_held (Going p) = settled_one layers is_held p
settled_record layers is_held (Wrong e) = Wrong e
