-- Statements that save: all or none, and in part (docs/platform.md, "Saves").
use Rattle.std.specs.Prelude.{ℕ, suc, eqb, pos, Bool, true, false, cond, List, [], ◌∷◌, ◌++◌, length, take, drop, map, filter, slice_get, Option, None, Some}
use Rattle.apex_num.specs.declared.kind.LimitKind.TheVariants.{Dml, Saved}
use Rattle.platform_errors.specs.declared.record.RecordError.{RecordError}
use Rattle.platform_errors.specs.declared.record.RecordError.TheVariants as Error
use Rattle.platform_errors.specs.declared.thrown.Thrown.{Thrown}
use Rattle.platform_errors.specs.declared.thrown.Thrown.TheVariants as Throw
use Rattle.apex_schema.specs.declared.schema.Object.{Object}
use Rattle.apex_requests.specs.declared.request.Op.{Op}
use Rattle.apex_requests.specs.declared.request.Op.TheVariants as Op'
use Rattle.apex_requests.specs.declared.request.SaveRow.{SaveRow}
use Rattle.row_meaning.specs.Overlays.{Overlay}
use Rattle.save_meaning.specs.Sites.{Site}
use Rattle.save_meaning.specs.Results.{Leaves, Res, Gives, Stops, bind, leaving}
use Rattle.save_meaning.specs.Transactions.{Keeps, charge, set_overlay}
use Rattle.save_meaning.specs.Inserts.{is_double, first_again, chunk_most}
use Rattle.save_statements.specs.declared.pending.Act.{Act}
use Rattle.save_statements.specs.declared.pending.Act.TheVariants.{Inserting, Updating, Deleting}
use Rattle.save_statements.specs.declared.pending.Manner.{Manner}
use Rattle.save_statements.specs.declared.pending.Record.{Record}
use Rattle.save_statements.specs.declared.pending.Record.TheVariants.{Going, Wrong}
use Rattle.save_statements.specs.declared.statement.Placed.{Placed}
use Rattle.save_statements.specs.declared.statement.RecordOutcome.{RecordOutcome}
use Rattle.save_statements.specs.declared.statement.RecordOutcome.TheVariants.{Done, Failed}
use Rattle.save_statements.specs.declared.statement.Told.{Told}
use Rattle.save_statements.specs.declared.statement.Chunk.{Chunk}
use Rattle.save_statements.specs.Phases.{Code, save_chunk}

-- each record with its place in the list, from this one on
abbrev pub placed : ℕ → List SaveRow → List Placed
placed n [] = []
placed n (r ∷ rs) = record { place = n; row = r } ∷ placed (suc n) rs

abbrev pub unplaced : List Placed → List SaveRow
unplaced rs = map (λ (r : Placed). r.row) rs

abbrev pub has_id : Option (List ℕ) → Bool
has_id None = false
has_id (Some id) = true

-- ---- chunks

abbrev pub cut : ℕ → Act → List Placed → List Chunk
cut (suc n) act (r ∷ rs) = record { act = act; rows = take chunk_most (r ∷ rs) } ∷ cut n act (drop chunk_most (r ∷ rs))
cut _ act _ = []

abbrev pub all_cut : Act → List Placed → List Chunk
all_cut act rs = cut (length rs) act rs

-- an upsert inserts its records without Id, and then updates the others
abbrev pub chunks : Op → List Placed → List Chunk
chunks Op'.Insert rs = all_cut Inserting rs
chunks Op'.Update rs = all_cut Updating rs
chunks Op'.Delete rs = all_cut Deleting rs
chunks Op'.Upsert rs = all_cut Inserting (filter (λ (r : Placed). cond (has_id r.row.id) false true) rs) ++ all_cut Updating (filter (λ (r : Placed). has_id r.row.id) rs)

-- ---- what came of the records of a chunk

abbrev pub outcome : Record → RecordOutcome
outcome (Going p) = Done p.row.id
outcome (Wrong e) = Failed e

abbrev pub told : List Placed → List Record → List Told
told (r ∷ rs) (d ∷ ds) = record { place = r.place; outcome = outcome d } ∷ told rs ds
told _ _ = []

abbrev pub or_first : ℕ → RecordOutcome → Option (ℕ × RecordError) → Option (ℕ × RecordError)
or_first n (Done id) later = later
or_first n (Failed e) later = Some (n, e)

abbrev pub first_failed : List Told → Option (ℕ × RecordError)
first_failed [] = None
first_failed (t ∷ ts) = or_first t.place t.outcome (first_failed ts)

abbrev pub is_failed : RecordOutcome → Bool
is_failed (Done id) = false
is_failed (Failed e) = true

abbrev pub failed_in : List Told → List Told
failed_in ts = filter (λ (t : Told). is_failed t.outcome) ts

-- the records that didn't fail
abbrev pub left_over : List Placed → List Told → List Placed
left_over (r ∷ rs) (t ∷ ts) = cond (is_failed t.outcome) (left_over rs ts) (r ∷ left_over rs ts)
left_over _ _ = []

-- those that would have been saved are given up
abbrev pub given_up_one : RecordOutcome → RecordOutcome
given_up_one (Done id) = Failed Error.TooManyRetries
given_up_one (Failed e) = Failed e

abbrev pub given_up : List Told → List Told
given_up ts = map (λ (t : Told). record t { outcome = given_up_one t.outcome }) ts

-- in the order of the statement's list
abbrev pub at_place : ℕ → List Told → List RecordOutcome
at_place n ts = map (λ (t : Told). t.outcome) (filter (λ (t : Told). eqb t.place n) ts)

abbrev pub in_order : ℕ → List SaveRow → List Told → List RecordOutcome
in_order n [] ts = []
in_order n (r ∷ rs) ts = at_place n ts ++ in_order (suc n) rs ts

-- the most attempts at a chunk that is saved in part
abbrev pub most_attempts : ℕ
most_attempts = 3

module _ {S : Type 0} (keeps : Keeps S) (site : Site) (code : Code S) (op : Op) (by : Manner) (object : ℕ) where
  -- a chunk throws nothing
  abbrev pub chunk : Act → Object → List SaveRow → S → Res S Thrown (List Record)
  chunk act o rows s = leaving (λ e. absurd e) (save_chunk keeps site code act by object o rows s)

  -- ---- all or none

  -- a chunk with an error ends the statement: the overlay is what it was at its start, and the first record that failed is told
  abbrev pub settle : Option (ℕ × RecordError) → Overlay → List Told → (S → Res S Thrown (List Told)) → S → Res S Thrown (List Told)
  settle (Some w) start ts later s = Stops (Leaves (Throw.Dml op (pos w.0) w.1)) (set_overlay keeps start s)
  settle None start ts later s = bind (later s) (λ more s1. Gives (ts ++ more) s1)

  abbrev pub all_or_none : Object → Overlay → List Chunk → S → Res S Thrown (List Told)
  all_or_none o start [] s = Gives [] s
  all_or_none o start (c ∷ cs) s =
      bind (chunk c.act o (unplaced c.rows) s) (λ rs s1. settle (first_failed (told c.rows rs)) start (told c.rows rs) (all_or_none o start cs) s1)

  -- ---- in part

  -- after an attempt: with an error the overlay is what it was at its start; what failed is set aside, and the others are tried
  -- again, or given up after the last attempt
  abbrev pub after : List Told → Bool → (List Placed → S → Res S Thrown (List Told)) → Overlay → List Placed → List Told → S → Res S Thrown (List Told)
  after [] last again start rs ts s = Gives ts s
  after (f ∷ fs) true again start rs ts s = Gives (given_up ts) (set_overlay keeps start s)
  after (f ∷ fs) false again start rs ts s = bind (again (left_over rs ts) (set_overlay keeps start s)) (λ more s1. Gives ((f ∷ fs) ++ more) s1)

  -- at most so many attempts, each from the records as they came
  abbrev pub attempts : ℕ → Act → Object → List Placed → S → Res S Thrown (List Told)
  attempts (suc n) act o (r ∷ rs) s =
      bind (chunk act o (unplaced (r ∷ rs)) s) (λ ds s1.
      after (failed_in (told (r ∷ rs) ds)) (eqb n 0) (attempts n act o) (keeps.txn s).overlay (r ∷ rs) (told (r ∷ rs) ds) s1)
  attempts _ act o _ s = Gives [] s

  abbrev pub in_part : Object → List Chunk → S → Res S Thrown (List Told)
  in_part o [] s = Gives [] s
  in_part o (c ∷ cs) s = bind (attempts most_attempts c.act o c.rows s) (λ ts s1. bind (in_part o cs s1) (λ more s2. Gives (ts ++ more) s2))

  -- ---- the statement

  abbrev pub in_chunks : Bool → Object → List Chunk → S → Res S Thrown (List Told)
  in_chunks true o cs s = all_or_none o (keeps.txn s).overlay cs s
  in_chunks false o cs s = in_part o cs s

  abbrev pub of_object : Bool → Option Object → List SaveRow → S → Res S Thrown (List RecordOutcome)
  of_object all None rows s = Gives [] s
  of_object all (Some o) rows s = bind (in_chunks all o (chunks op (placed 0 rows)) s) (λ ts s1. Gives (in_order 0 rows ts) s1)

  abbrev pub without_double : Bool → Option (List ℕ) → (S → Res S Thrown (List RecordOutcome)) → S → Res S Thrown (List RecordOutcome)
  without_double true again go s = Stops (Leaves Throw.DuplicateRecord) s
  without_double false (Some id) go s = Stops (Leaves (Throw.DuplicateId id)) s
  without_double false None go s = go s

  -- the records are saved, all or none or in part, and what came of each is answered
  abbrev pub save : Bool → List SaveRow → S → Res S Thrown (List RecordOutcome)
  save all rows s =
      bind (charge keeps Dml 1 s) (λ u s1.
      bind (charge keeps Saved (length rows) s1) (λ v s2.
      without_double (is_double (map (λ (r : SaveRow). r.key) rows)) (first_again [] (map (λ (r : SaveRow). r.id) rows)) (of_object all (slice_get site.schema.objects object) rows) s2))
