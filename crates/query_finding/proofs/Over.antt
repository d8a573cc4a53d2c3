-- The rows over rows, path by path.
use Rattle.std.proofs.Common.{◌≡◌, sym, subst, ℕ, ◌+◌, ◌<◌, ◌≤◌, List, [], ◌∷◌, length, drop, get_or, Option, None, Some}
use Rattle.apex_rows.specs.declared.query.Path.{Path}
use Rattle.apex_rows.specs.declared.query.Question.{Question}
use Rattle.apex_rows.specs.declared.query.Answer.{Answer}
use Rattle.apex_rows.specs.declared.row.Row.{Row}
use Rattle.row_meaning.specs.Overlays.{Overlay}
use Rattle.row_meaning.specs.Stores.{put_all}
use Rattle.save_meaning.specs.Drafts.{untouched}
use Rattle.save_meaning.specs.Sites.{Site}
use Rattle.store_inquiries.specs.Inquiries.{Found as Done}
use Rattle.store_inquiries.specs.Questions.{rising, rows_by}
use Rattle.query_meaning.specs.Parents.{named_over, object_over}
use Rattle.query_meaning.specs.Queries.{read_parent, read_parents}
use Rattle.answer_replay.specs.declared.answers.Comes.{Comes}
use Rattle.answer_replay.specs.declared.answers.Comes.TheVariants as C
use Rattle.answer_replay.specs.Playing.{Plays, PlaysInto}
use Rattle.answer_replay.proofs.Composing.{finds, found_last, wants_on}
use Rattle.query_finding.proofs.Lists.{here, past}
use Rattle.query_finding.proofs.Chaining.{Continues, wants_next, found_next}

-- ---- one path

module _ (site : Site) (overlay : Overlay) (object : ℕ) (path : Path) (rows known : List Row) (ids : List (List ℕ)) (before after : List Answer) (comes : Comes (List Row))
    (is : ids ≡ untouched overlay (rising (named_over site.schema known path rows))) (p : Plays (rows_by overlay object ids) before comes after) where
  reads : Plays (rows_by overlay object (untouched overlay (rising (named_over site.schema known path rows)))) before comes after
  reads = subst (λ (x : List (List ℕ)). Plays (rows_by overlay object x) before comes after) is p

  pub over_wants : (q : Question) → comes ≡ C.Wants q → Plays (read_parent site overlay (Some object) path rows known) before (C.Wants q) after
  over_wants q e =
      wants_on (rows_by overlay object (untouched overlay (rising (named_over site.schema known path rows)))) (λ (found : List Row). Done (put_all found known)) before after comes q e reads

  pub over_found : (found new : List Row) → comes ≡ C.Found found → new ≡ put_all found known → Plays (read_parent site overlay (Some object) path rows known) before (C.Found new) after
  over_found found new e n =
      found_last (rows_by overlay object (untouched overlay (rising (named_over site.schema known path rows)))) (λ (found : List Row). put_all found known) before after found new
      (subst (λ (x : Comes (List Row)). Plays (rows_by overlay object (untouched overlay (rising (named_over site.schema known path rows)))) before x after) e reads) (sym n)

-- the path leads to an object, or to none
pub leads_there : (site : Site) (overlay : Overlay) (led : Option ℕ) (object : ℕ) (path : Path) (rows known new : List Row) (before after : List Answer) (comes : Comes (Unit {0})) →
    led ≡ Some object → PlaysInto (read_parent site overlay (Some object) path rows known) before comes known new after → PlaysInto (read_parent site overlay led path rows known) before comes known new after
leads_there site overlay led object path rows known new before after comes e p = subst (λ (x : Option ℕ). PlaysInto (read_parent site overlay x path rows known) before comes known new after) (sym e) p

pub leads_nowhere : (site : Site) (overlay : Overlay) (led : Option ℕ) (path : Path) (rows known : List Row) (before : List Answer) →
    led ≡ None → Plays (read_parent site overlay led path rows known) before (C.Found known) before
leads_nowhere site overlay led path rows known before e = subst (λ (x : Option ℕ). Plays (read_parent site overlay x path rows known) before (C.Found known) before) (sym e) (finds known before)

-- ---- all paths

module _ (site : Site) (overlay : Overlay) (object : ℕ) (paths : List Path) (rows : List Row) (before : List Answer) where
  -- these paths are left, and these rows are known
  abbrev pub ReadsOn : List Path → List Row → List Answer → Type 0
  ReadsOn rest known now = Continues (read_parents site overlay object paths rows []) before (read_parents site overlay object rest rows known) now

  pub reads_begin : (known : List Row) → known ≡ [] → ReadsOn paths known before
  reads_begin known e comes after p = subst (λ (k : List Row). Plays (read_parents site overlay object paths rows k) before comes after) e p

  module _ (i : ℕ) (known : List Row) (now : List Answer) (h : ReadsOn (drop i paths) known now) where
    pub reads_end : length paths ≤ i → Plays (read_parents site overlay object paths rows []) before (C.Found known) now
    reads_end le = h (C.Found known) now (subst (λ (ps : List Path). Plays (read_parents site overlay object ps rows known) now (C.Found known) now) (sym (past i paths le)) (finds known now))

    module _ (path : Path) (lt : i < length paths) (is : path ≡ get_or paths i path) (new : List Row) (later : List Answer) (comes : Comes (Unit {0}))
        (p : PlaysInto (read_parent site overlay (object_over site.schema object path) path rows known) now comes known new later) where
      turn : Continues (read_parents site overlay object paths rows []) before (read_parents site overlay object (path ∷ drop (i + 1) paths) rows known) now
      turn = subst (λ (ps : List Path). ReadsOn ps known now) (here i paths path lt is) h

      pub path_wants : (q : Question) → comes ≡ C.Wants q → Plays (read_parents site overlay object paths rows []) before (C.Wants q) later
      path_wants q e =
          wants_next (read_parents site overlay object paths rows []) before now (read_parent site overlay (object_over site.schema object path) path rows known) (read_parents site overlay object (drop (i + 1) paths) rows) turn
          comes known new later p q e

      pub path_found : (u : Unit {0}) → comes ≡ C.Found u → ReadsOn (drop (i + 1) paths) new later
      path_found u e =
          found_next (read_parents site overlay object paths rows []) before now (read_parent site overlay (object_over site.schema object path) path rows known) (read_parents site overlay object (drop (i + 1) paths) rows) turn
          comes known new later p u e
