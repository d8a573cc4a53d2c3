-- Runs of queries: what they change, how they go on on a longer tape, and what they answer on that of a store.
use Rattle.std.proofs.Common.{◌≡◌, refl, ap, ◌∙◌, ℕ, Bool, true, false, List, ◌∷◌, ◌++◌, length}
use Rattle.apex_num.specs.declared.kind.LimitKind.{LimitKind}
use Rattle.apex_num.specs.declared.kind.LimitKind.TheVariants.{Queries, Rows, Alloc}
use Rattle.limit_meter.specs.Charges.{Charged, fits}
use Rattle.platform_errors.specs.declared.thrown.Thrown.{Thrown}
use Rattle.platform_errors.specs.declared.thrown.Thrown.TheVariants.{InvalidLimit}
use Rattle.apex_schema.specs.declared.schema.Mode.{Mode}
use Rattle.apex_rows.specs.declared.query.Answer.{Answer}
use Rattle.apex_rows.specs.declared.query.Bind.{Bind}
use Rattle.apex_rows.specs.declared.query.Query.{Query}
use Rattle.apex_rows.specs.declared.query.Query.TheViews.{out-Query}
use Rattle.apex_rows.specs.declared.row.Found.{Found}
use Rattle.apex_rows.specs.declared.row.Row.{Row}
use Rattle.row_meaning.specs.Overlays.{Overlay}
use Rattle.row_meaning.specs.Stores.{IsStore}
use Rattle.save_meaning.specs.Counts.{IsKeyed}
use Rattle.save_meaning.specs.Results.{Res, Gives, Stops, bind, Holds}
use Rattle.save_meaning.specs.Sites.{Site}
use Rattle.save_meaning.specs.Transactions.{Keeps, IsKept, charge, charge_if}
use Rattle.store_inquiries.specs.Inquiries.{Inquiry, inquire, on_tape, of_store, told, with_tape}
use Rattle.store_inquiries.proofs.Inquiring.{store_answers}
use Rattle.query_meaning.specs.Queries.{Answered, all_numbers, rows_in, units_of, finding, holding, answer_of, charge_rows, query_if, query}
use Rattle.query_meaning.specs.Laws.{rows_meant, FindsWhatItMeans, having_found, AnswersWhatItMeans, ChangesNothing, TakesOneByOne}
use Rattle.query_meaning.proofs.Maps.{in_order}
use Rattle.query_meaning.proofs.Plain.{finding_is}
use Rattle.query_meaning.proofs.Tame.{tape_at, overlay_at, Tame, tame_bind, tame_gives, tame_throws, tame_charge, tame_asking, on_own}

pub finds : FindsWhatItMeans
finds site overlay mode binds store q keyed stored = finding_is site overlay keyed store (in_order store stored.rising) stored.rows_are mode binds q

-- parts that agree wherever the part before may end
bind_held : {S E A B : Type 0} (ok : A → S → Type 0) (r : Res S E A) (f g : A → S → Res S E B) → Holds ok (λ why s. Unit {0}) r → ((a : A) (s : S) → ok a s → f a s ≡ g a s) → bind r f ≡ bind r g
bind_held ok (Gives a s) f g h same = same a s h
bind_held ok (Stops why s) f g h same = refl

module _ (S : Type 0) (keeps : Keeps S) (kept : IsKept keeps) (site : Site) (mode : Mode) (binds : List Bind) where
  tame_rows : (counted : Bool) (rows : List Row) → Tame keeps kept Thrown (Unit {0}) (charge_rows keeps site mode binds counted rows)
  tame_rows true rows = tame_charge keeps kept Thrown Rows 1
  tame_rows false rows =
      tame_bind keeps kept (charge keeps Rows (length rows)) (λ u s1. charge keeps Alloc (units_of site.schema rows) s1)
      (tame_charge keeps kept Thrown Rows (length rows)) (λ u. tame_charge keeps kept Thrown Alloc (units_of site.schema rows))

  module _ (q : Query) where
    abbrev held : List Found → S → Res S Thrown Answered
    held found s3 = bind (inquire keeps (holding site.ticket (out-Query q).locked found) s3) (λ w s4. Gives (answer_of (out-Query q).counted found) s4)

    abbrev paid : List Found → S → Res S Thrown Answered
    paid found s2 = bind (charge_rows keeps site mode binds (out-Query q).counted (rows_in found) s2) (λ v s3. held found s3)

    tame_held : (found : List Found) → Tame keeps kept Thrown Answered (held found)
    tame_held found =
        tame_bind keeps kept (λ s3. inquire keeps (holding site.ticket (out-Query q).locked found) s3) (λ w s4. Gives (answer_of (out-Query q).counted found) s4)
        (tame_asking keeps kept Thrown (Unit {0}) (λ v. holding site.ticket (out-Query q).locked found)) (λ w. tame_gives keeps kept (answer_of (out-Query q).counted found))

    tame_paid : (found : List Found) → Tame keeps kept Thrown Answered (paid found)
    tame_paid found =
        tame_bind keeps kept (charge_rows keeps site mode binds (out-Query q).counted (rows_in found)) (λ v s3. held found s3) (tame_rows (out-Query q).counted (rows_in found)) (λ v. tame_held found)

    tame_if : (b : Bool) → Tame keeps kept Thrown Answered (query_if keeps site mode binds b q)
    tame_if false = tame_throws keeps kept InvalidLimit
    tame_if true =
        tame_bind keeps kept (charge keeps Queries 1) (λ u s1. bind (inquire keeps (finding site (keeps.txn s1).overlay mode binds q) s1) (λ found s2. paid found s2))
        (tame_charge keeps kept Thrown Queries 1)
        (λ u. tame_bind keeps kept (λ s1. inquire keeps (finding site (keeps.txn s1).overlay mode binds q) s1) (λ found s2. paid found s2)
        (tame_asking keeps kept Thrown (List Found) (λ v. finding site v mode binds q)) tame_paid)

    pub tame_query : Tame keeps kept Thrown Answered (query keeps site mode binds q)
    tame_query = tame_if (all_numbers binds q)

  -- ---- on the tape of a store

  abbrev Same : S → S → Type 0
  Same s s1 = ((keeps.txn s1).overlay ≡ (keeps.txn s).overlay) × ((keeps.txn s1).tape ≡ (keeps.txn s).tape)

  charge_same : (k : LimitKind) (n : ℕ) (s : S) → Holds {E = Thrown} (λ u s1. Same s s1) (λ why s1. Unit {0}) (charge keeps k n s)
  charge_same k n s = by (fits k n (keeps.txn s).charges) where
    by : (b : Bool) → Holds {E = Thrown} (λ u s1. Same s s1) (λ why s1. Unit {0}) (charge_if keeps b k n s)
    by true = (overlay_at keeps kept (Charged k n ∷ (keeps.txn s).charges) (keeps.txn s).tape s, tape_at keeps kept (Charged k n ∷ (keeps.txn s).charges) (keeps.txn s).tape s)
    by false = tt

  rows_same : (counted : Bool) (rows : List Row) (s : S) → Holds (λ u s1. Same s s1) (λ why s1. Unit {0}) (charge_rows keeps site mode binds counted rows s)
  rows_same true rows s = charge_same Rows 1 s
  rows_same false rows s = by (charge keeps Rows (length rows) s) (charge_same Rows (length rows) s) where
    later : (s1 : S) → Same s s1 → (r : Res S Thrown (Unit {0})) → Holds (λ u s2. Same s1 s2) (λ why s2. Unit {0}) r → Holds (λ u s2. Same s s2) (λ why s2. Unit {0}) r
    later s1 h (Gives u s2) k = (k.0 ∙ h.0, k.1 ∙ h.1)
    later s1 h (Stops why s2) k = tt

    by : (r : Res S Thrown (Unit {0})) → Holds (λ u s1. Same s s1) (λ why s1. Unit {0}) r → Holds (λ u s2. Same s s2) (λ why s2. Unit {0}) (bind r (λ u s1. charge keeps Alloc (units_of site.schema rows) s1))
    by (Gives u s1) h = later s1 h (charge keeps Alloc (units_of site.schema rows) s1) (charge_same Alloc (units_of site.schema rows) s1)
    by (Stops why s1) h = tt

  -- an inquiry on the answers of a store
  answered : {A : Type 0} (store : List Row) (i : Inquiry A) (more : List Answer) (s : S) → (keeps.txn s).tape ≡ told store i ++ more →
      inquire {E = Thrown} keeps i s ≡ Gives (of_store store i) (with_tape keeps more s)
  answered {A = A} store i more s e =
      on_own keeps kept Thrown A i s ∙ ap (λ tape. on_tape {E = Thrown} keeps i tape s) e ∙ store_answers keeps store i more s

  pub answers : (store : List Row) (q : Query) (more : List Answer) (s : S) → IsKeyed (keeps.txn s).overlay → IsStore site.schema store → all_numbers binds q ≡ true →
      let found = rows_meant site (keeps.txn s).overlay mode binds store q in
      let last = told store (holding site.ticket (out-Query q).locked found) ++ more in
      (keeps.txn s).tape ≡ told store (finding site (keeps.txn s).overlay mode binds q) ++ last →
      query keeps site mode binds q s ≡ having_found S keeps site mode binds q found last more s
  answers store q more s keyed stored numbers tape =
      ap (λ b. query_if keeps site mode binds b q s) numbers ∙ bind_held (λ u s1. Same s s1) (charge keeps Queries 1 s) _ _ (charge_same Queries 1 s) (λ u s1 h.
      ap (λ r. bind r (λ found s2. paid q found s2)) (found_at s1 h)
      ∙ bind_held (λ u s3. Same (with_tape keeps last s1) s3) (charge_rows keeps site mode binds (out-Query q).counted (rows_in found) (with_tape keeps last s1)) (λ v s3. held q found s3) _
      (rows_same (out-Query q).counted (rows_in found) (with_tape keeps last s1))
      (λ v s3 k. ap (λ r. bind r (λ w s4. Gives (answer_of (out-Query q).counted found) s4))
      (answered store (holding site.ticket (out-Query q).locked found) more s3 (k.1 ∙ tape_at keeps kept (keeps.txn s1).charges last s1)))) where
        overlay : Overlay
        overlay = (keeps.txn s).overlay

        found : List Found
        found = rows_meant site overlay mode binds store q

        last : List Answer
        last = told store (holding site.ticket (out-Query q).locked found) ++ more

        found_at : (s1 : S) → Same s s1 → inquire {E = Thrown} keeps (finding site (keeps.txn s1).overlay mode binds q) s1 ≡ Gives found (with_tape keeps last s1)
        found_at s1 h =
            ap (λ v. inquire {E = Thrown} keeps (finding site v mode binds q) s1) h.0
            ∙ answered store (finding site overlay mode binds q) last s1 (h.1 ∙ tape)
            ∙ ap (λ fs. Gives fs (with_tape keeps last s1)) (finds site overlay mode binds store q keyed stored)

pub answers_what_it_means : (S : Type 0) → AnswersWhatItMeans S
answers_what_it_means S keeps kept site mode binds store q more s = answers S keeps kept site mode binds store q more s

pub changes_nothing : (S : Type 0) → ChangesNothing S
changes_nothing S keeps kept site mode binds q s = (tame_query S keeps kept site mode binds q).only s

pub takes_one_by_one : (S : Type 0) → TakesOneByOne S
takes_one_by_one S keeps kept site mode binds q more s = (tame_query S keeps kept site mode binds q).goes_on more s
