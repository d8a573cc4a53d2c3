-- A statement of all or none that throws leaves the overlay as it found it.
use Rattle.std.proofs.Common.{◌≡◌, refl, ap, sym, subst, ◌∙◌, ℕ, Bool, true, false, List, [], ◌∷◌, length, map, Option, None, Some}
use Rattle.std.specs.Prelude.{slice_get}
use Rattle.apex_num.specs.declared.kind.LimitKind.{LimitKind}
use Rattle.apex_num.specs.declared.kind.LimitKind.TheVariants.{Dml, Saved}
use Rattle.limit_meter.specs.Charges.{fits}
use Rattle.platform_errors.specs.declared.record.RecordError.{RecordError}
use Rattle.platform_errors.specs.declared.thrown.Thrown.{Thrown}
use Rattle.apex_schema.specs.declared.schema.Object.{Object}
use Rattle.apex_requests.specs.declared.request.Op.{Op}
use Rattle.apex_requests.specs.declared.request.SaveRow.{SaveRow}
use Rattle.row_meaning.specs.Overlays.{Overlay}
use Rattle.save_meaning.specs.Sites.{Site}
use Rattle.save_meaning.specs.Results.{Stop, Leaves, Closes, Res, Gives, Stops, bind, leaving, Holds}
use Rattle.save_meaning.specs.Transactions.{Keeps, IsKept, charge_if, charge}
use Rattle.save_statements.specs.declared.pending.Manner.{Manner}
use Rattle.save_statements.specs.Phases.{Code}
use Rattle.save_statements.specs.Statements as St
use Rattle.save_statements.specs.declared.statement.Chunk.{Chunk}
use Rattle.save_statements.specs.declared.statement.Told.{Told}
use Rattle.save_statements.specs.declared.statement.RecordOutcome.{RecordOutcome}
use Rattle.save_statements.specs.Statements.{first_failed, told}
use Rattle.save_meaning.specs.Inserts.{is_double, first_again}
use Rattle.save_statements.specs.Laws.{FailedSavesChangeNothing}

module _ {S : Type 0} (keeps : Keeps S) (kept : IsKept keeps) where
  -- what is thrown leaves this overlay
  abbrev Ends : Overlay → Stop Thrown → S → Type 0
  Ends v (Leaves t) s = (keeps.txn s).overlay ≡ v
  Ends v (Closes end) s = Unit {0}

  abbrev Spares : {A : Type 0} → Overlay → Res S Thrown A → Type 0
  Spares v r = Holds (λ a s. Unit {0}) (Ends v) r

  spares_bind : {A B : Type 0} (v : Overlay) (r : Res S Thrown A) (go : A → S → Res S Thrown B) → Spares v r → ((a : A) (s : S) → Spares v (go a s)) → Spares v (bind r go)
  spares_bind v (Gives a s) go h more = more a s
  spares_bind v (Stops why s) go h more = h

  -- a part that throws nothing
  never : {A : Type 0} (v : Overlay) (r : Res S ⊥ A) → Spares v (leaving (λ e. absurd e) r)
  never v (Gives a s) = tt
  never v (Stops (Leaves e) s) = absurd e
  never v (Stops (Closes end) s) = tt

  -- a charge leaves the overlay
  charge_then : {B : Type 0} (v : Overlay) (k : LimitKind) (n : ℕ) (s : S) (go : Unit {0} → S → Res S Thrown B) → (keeps.txn s).overlay ≡ v →
      ((u : Unit {0}) (s1 : S) → (keeps.txn s1).overlay ≡ v → Spares v (go u s1)) → Spares v (bind (charge keeps k n s) go)
  charge_then v k n s go e more = by (fits k n (keeps.txn s).charges) where
    by : (b : Bool) → Spares v (bind (charge_if keeps b k n s) go)
    by true = more tt _ (ap (λ t. t.overlay) (kept.same _ s) ∙ e)
    by false = tt

  module _ (site : Site) (code : Code S) (op : Op) (by : Manner) (object : ℕ) where
    spares_settle : (w : Option (ℕ × RecordError)) (v : Overlay) (ts : List Told) (later : S → Res S Thrown (List Told)) (s : S) → ((s1 : S) → Spares v (later s1)) →
        Spares v (St.settle keeps site code op by object w v ts later s)
    spares_settle (Some w) v ts later s h = ap (λ t. t.overlay) (kept.same _ s)
    spares_settle None v ts later s h = spares_bind v (later s) _ (h s) (λ more s1. tt)

    spares_chunks : (o : Object) (v : Overlay) (cs : List Chunk) (s : S) → Spares v (St.all_or_none keeps site code op by object o v cs s)
    spares_chunks o v [] s = tt
    spares_chunks o v (c ∷ cs) s =
        spares_bind v (St.chunk keeps site code op by object c.act o (St.unplaced c.rows) s) _ (never v _)
        (λ rs s1. spares_settle (first_failed (told c.rows rs)) v (told c.rows rs) (St.all_or_none keeps site code op by object o v cs) s1 (λ s2. spares_chunks o v cs s2))

    spares_object : (o : Option Object) (rows : List SaveRow) (v : Overlay) (s : S) → (keeps.txn s).overlay ≡ v → Spares v (St.of_object keeps site code op by object true o rows s)
    spares_object None rows v s e = tt
    spares_object (Some o) rows v s e =
        spares_bind v (St.in_chunks keeps site code op by object true o (St.chunks op (St.placed 0 rows)) s) _
        (subst (λ start. Spares v (St.all_or_none keeps site code op by object o start (St.chunks op (St.placed 0 rows)) s)) (sym e) (spares_chunks o v (St.chunks op (St.placed 0 rows)) s))
        (λ ts s1. tt)

    spares_double : (b : Bool) (again : Option (List ℕ)) (go : S → Res S Thrown (List RecordOutcome)) (v : Overlay) (s : S) → (keeps.txn s).overlay ≡ v → Spares v (go s) →
        Spares v (St.without_double keeps site code op by object b again go s)
    spares_double true again go v s e h = e
    spares_double false (Some id) go v s e h = e
    spares_double false None go v s e h = h

    spares_save : (rows : List SaveRow) (s : S) → Spares (keeps.txn s).overlay (St.save keeps site code op by object true rows s)
    spares_save rows s =
        charge_then (keeps.txn s).overlay Dml 1 s _ refl (λ u s1 e.
        charge_then (keeps.txn s).overlay Saved (length rows) s1 _ e (λ w s2 f.
        spares_double (is_double (map (λ (r : SaveRow). r.key) rows)) (first_again [] (map (λ (r : SaveRow). r.id) rows))
        (St.of_object keeps site code op by object true (slice_get site.schema.objects object) rows) (keeps.txn s).overlay s2 f (spares_object (slice_get site.schema.objects object) rows (keeps.txn s).overlay s2 f)))

    pub failed_save : (rows : List SaveRow) (s later : S) (why : Thrown) → St.save keeps site code op by object true rows s ≡ Stops (Leaves why) later → (keeps.txn later).overlay ≡ (keeps.txn s).overlay
    failed_save rows s later why e = subst (Spares (keeps.txn s).overlay) e (spares_save rows s)

pub failed_saves : (S : Type 0) → FailedSavesChangeNothing S
failed_saves S keeps kept site code op by object rows s later why e = failed_save keeps kept site code op by object rows s later why e
