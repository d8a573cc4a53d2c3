-- How the records of a chunk are looked at (docs/platform.md, "Saves").
use Rattle.std.specs.Prelude.{ℕ, suc, ◌||◌, ◌&&◌, not, Bool, true, false, cond, List, [], ◌∷◌, ◌++◌, length, filter, slice_get, Option, None, Some}
use Rattle.std.specs.List.{list_any}
use Rattle.platform_errors.specs.declared.record.RecordError.{RecordError}
use Rattle.platform_errors.specs.declared.record.RecordError.TheVariants as Error
use Rattle.apex_schema.specs.declared.schema.FieldKind.{FieldKind}
use Rattle.apex_schema.specs.declared.schema.FieldKind.TheVariants as Kind
use Rattle.apex_schema.specs.declared.schema.Field.{Field}
use Rattle.apex_schema.specs.declared.schema.Object.{Object}
use Rattle.apex_schema.specs.declared.schema.RuleHead.{RuleHead}
use Rattle.apex_schema.specs.declared.rule.Rule.{Rule}
use Rattle.apex_rows.specs.declared.row.Row.{Row}
use Rattle.row_meaning.specs.Conds.{cell_of}
use Rattle.row_meaning.specs.Overlays.{Overlay}
use Rattle.row_meaning.specs.Rules.{rule_value}
use Rattle.row_meaning.specs.Stores.{has_id, of_object}
use Rattle.save_meaning.specs.Sites.{Site}
use Rattle.save_meaning.specs.declared.draft.Reference.{Reference}
use Rattle.save_meaning.specs.Drafts.{or_later, when, references, id_in, with_ids, untouched, dangles, is_user, name_of, lacking, too_long, is_bad_level}
use Rattle.save_meaning.specs.Inserts.{ids_of, is_row_share}
use Rattle.store_inquiries.specs.Inquiries.{Inquiry, Found, and_then}
use Rattle.store_inquiries.specs.Questions.{rows_by, grab}
use Rattle.save_statements.specs.declared.pending.Act.{Act}
use Rattle.save_statements.specs.declared.pending.Act.TheVariants.{Deleting}
use Rattle.save_statements.specs.declared.pending.Pending.{Pending}
use Rattle.save_statements.specs.declared.pending.Record.{Record}
use Rattle.save_statements.specs.declared.pending.Naming.{Naming}
use Rattle.save_statements.specs.Records.{judged, changed_to, going, rows_of, is_new, changes, masters, lookups, names_one, named_by}
use Rattle.save_statements.specs.Inquiries.{naming}

-- ---- references

-- a reference is looked up where it is new: another than the row had, and than when references were looked up last
abbrev pub is_looked_up : ℕ → Pending → Bool
is_looked_up field p = is_new field p.row p.old && is_new field p.row p.seen

abbrev pub named_in : ℕ → List Pending → List (List ℕ)
named_in field [] = []
named_in field (p ∷ ps) = cond (is_looked_up field p) (id_in (cell_of p.row field)) [] ++ named_in field ps

-- what each reference may name: one question for a field that names Ids which the transaction didn't touch
abbrev pub find_all : Overlay → List Reference → List Pending → Inquiry (List (Reference × List Row))
find_all overlay [] ps = Found []
find_all overlay (ref ∷ refs) ps =
    and_then (rows_by overlay ref.to (untouched overlay (with_ids (named_in ref.field ps) []))) (λ found.
    and_then (find_all overlay refs ps) (λ more. Found ((ref, found) ∷ more)))

abbrev pub dangling : List (Reference × List Row) → Pending → Option RecordError
dangling [] p = None
dangling (q ∷ qs) p = or_later (when (is_looked_up q.0.field p && dangles q.1 (cell_of p.row q.0.field)) (Error.NoReference q.0.name)) (dangling qs p)

-- the owner is none of so many users, or a reference names no row
abbrev pub bad_reference : ℕ → Object → List (Reference × List Row) → Pending → Option RecordError
bad_reference users o found p =
    or_later (when (is_new 1 p.row p.seen && not (is_user users (cell_of p.row 1))) (Error.NoReference (name_of (slice_get o.fields 1)))) (dangling found p)

abbrev pub seen_now : Pending → Pending
seen_now p = record p { seen = Some p.row }

-- ---- the records of inserts and updates

abbrev pub is_master : FieldKind → Bool
is_master (Kind.MasterDetail link) = true
is_master _ = false

-- the first master that changes
abbrev pub other_master : ℕ → List Field → Pending → Option RecordError
other_master n [] p = None
other_master n (f ∷ fs) p = or_later (when (is_master f.kind && changes n p.row p.old) (Error.CannotChange f.name)) (other_master (suc n) fs p)

-- the first rule that holds, with its message
abbrev pub broken : List Rule → List RuleHead → Pending → Option RecordError
broken (r ∷ rs) (h ∷ hs) p = or_later (when (rule_value p.row p.old r) (Error.Custom h.message)) (broken rs hs p)
broken _ _ p = None

-- what is found wrong with a record of an object; `shares` where it is RowShare
abbrev pub invalid : ℕ → Bool → Object → List (Reference × List Row) → Pending → Option RecordError
invalid users shares o found p =
    or_later (bad_reference users o found p)
    (or_later (other_master 0 o.fields p)
    (or_later (lacking 0 o.fields p.row)
    (or_later (too_long 0 o.fields p.row)
    (or_later (when (shares && is_bad_level (cell_of p.row 4)) Error.BadLevel)
    (broken o.rules o.heads p)))))

-- ---- the records of deletes

abbrev pub naming_all : Overlay → List Naming → List Row → Inquiry (List (Naming × List Row))
naming_all overlay [] rows = Found []
naming_all overlay (n ∷ ns) rows =
    and_then (naming overlay n (with_ids (ids_of (of_object n.to rows)) [])) (λ found. and_then (naming_all overlay ns rows) (λ more. Found ((n, found) ∷ more)))

abbrev pub found_rows : List (Naming × List Row) → List Row
found_rows [] = []
found_rows (q ∷ qs) = q.1 ++ found_rows qs

abbrev pub joined : List (List Row) → List Row
joined [] = []
joined (level ∷ ls) = level ++ joined ls

-- the Ids of some rows of a level, and of all that goes with them
abbrev pub all_under : List Naming → List (List Row) → List (List ℕ) → List (List ℕ)
all_under namings [] ids = ids
all_under namings (level ∷ ls) ids = ids ++ all_under namings ls (ids_of (filter (named_by namings ids) level))

abbrev pub with_under : List Naming → List (List Row) → Pending → Pending
with_under namings ls p = record p { under = all_under namings ls (p.row.id ∷ []) }

-- a row that stays names one of these
abbrev pub is_held : List (Naming × List Row) → List (List ℕ) → List (List ℕ) → Bool
is_held [] gone ids = false
is_held (q ∷ qs) gone ids = list_any (λ (r : Row). not (has_id gone r.id) && names_one q.0.field ids r) q.1 || is_held qs gone ids

abbrev pub referenced : List (Naming × List Row) → List (List ℕ) → Pending → Option RecordError
referenced found gone p = when (is_held found gone p.under) Error.Referenced

-- a chain of masters has three steps at the most
abbrev pub most_levels : ℕ
most_levels = 3

-- ---- where the request runs, and what the transaction changed so far

module _ (site : Site) (overlay : Overlay) where
  -- the references of inserts and updates are looked up
  abbrev pub refer_rows : Object → List Record → Inquiry (List Record)
  refer_rows o rs =
      and_then (find_all overlay (references 0 o.fields) (going rs)) (λ found. Found (changed_to seen_now (judged (bad_reference (length site.schema.users) o found) rs)))

  abbrev pub refer : Act → Object → List Record → Inquiry (List Record)
  refer Deleting o rs = Found rs
  refer act o rs = refer_rows o rs

  abbrev pub validate_rows : ℕ → Object → List Record → Inquiry (List Record)
  validate_rows object o rs =
      and_then (find_all overlay (references 0 o.fields) (going rs)) (λ found. Found (judged (invalid (length site.schema.users) (is_row_share site.schema object) o found) rs))

  -- the rows under these, level by level: those whose master is of the level above; the rows of each level are held
  abbrev pub levels : ℕ → List Row → Inquiry (List (List Row))
  levels (suc n) (row ∷ rows) =
      and_then (naming_all overlay (masters site.schema) (row ∷ rows)) (λ found.
      and_then (grab site.ticket (with_ids (ids_of (found_rows found)) [])) (λ u.
      and_then (levels n (found_rows found)) (λ more. Found (found_rows found ∷ more))))
  levels _ _ = Found []

  -- what dies, then what names it; a record under which a row dies that another names fails
  abbrev pub validate_delete : List Record → Inquiry (List Record)
  validate_delete rs =
      and_then (levels most_levels (rows_of (going rs))) (λ ls.
      and_then (naming_all overlay (lookups site.schema) (rows_of (going rs) ++ joined ls)) (λ found.
      Found (judged (referenced found (ids_of (rows_of (going rs) ++ joined ls))) (changed_to (with_under (masters site.schema) ls) rs))))

  abbrev pub validate : Act → ℕ → Object → List Record → Inquiry (List Record)
  validate Deleting object o rs = validate_delete rs
  validate act object o rs = validate_rows object o rs
