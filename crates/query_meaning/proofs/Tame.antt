-- Runs that only charge and ask: what they change, and how they go on on a longer tape.
use Rattle.std.proofs.Common.{◌≡◌, refl, ap, sym, subst, ◌∙◌, ℕ, ◌+◌, Bool, true, false, List, [], ◌∷◌, ◌++◌, append_assoc}
use Rattle.apex_num.specs.declared.kind.LimitKind.{LimitKind}
use Rattle.apex_rows.specs.declared.query.Answer.{Answer}
use Rattle.limit_meter.specs.Charges.{Entry, Charged, limit_of, fits}
use Rattle.row_meaning.specs.Overlays.{Overlay}
use Rattle.save_meaning.specs.Results.{Halts, Needs, Leaves, Closes, Res, Gives, Stops, bind, Holds}
use Rattle.save_meaning.specs.Transactions.{Txn, Keeps, IsKept, charge, charge_if}
use Rattle.store_inquiries.specs.Inquiries.{Inquiry, Found, Asked, inquire, on_tape}
use Rattle.store_inquiries.proofs.Inquiring.{each_takes}
use Rattle.query_meaning.specs.Laws.{OnlyCharged, longer, left_at, IsBehind, TakesOne, Continues}

further_behind : (a b c : List Answer) → IsBehind a b → IsBehind b c → IsBehind a c
further_behind a b c h k = (h.0 ++ k.0, h.1 ∙ ap (λ t. h.0 ++ t) k.1 ∙ sym (append_assoc h.0 k.0 c))

module _ {S : Type 0} (keeps : Keeps S) (kept : IsKept keeps) where
  -- a state with these charges and these answers left
  abbrev pub at : List Entry → List Answer → S → S
  at cs tape s = keeps.with_txn (record (keeps.txn s) { charges = cs; tape = tape }) s

  txn_at : (cs : List Entry) (tape : List Answer) (s : S) → keeps.txn (at cs tape s) ≡ record (keeps.txn s) { charges = cs; tape = tape }
  txn_at cs tape s = kept.same (record (keeps.txn s) { charges = cs; tape = tape }) s

  at_at : (cs ds : List Entry) (tape before : List Answer) (s : S) → at cs tape (at ds before s) ≡ at cs tape s
  at_at cs ds tape before s =
      ap (λ (t : Txn). keeps.with_txn (record t { charges = cs; tape = tape }) (at ds before s)) (txn_at ds before s)
      ∙ kept.twice (record (keeps.txn s) { charges = cs; tape = tape }) (record (keeps.txn s) { charges = ds; tape = before }) s

  pub at_itself : (s : S) → at (keeps.txn s).charges (keeps.txn s).tape s ≡ s
  at_itself s = kept.itself s

  pub longer_at : (more : List Answer) (cs : List Entry) (tape : List Answer) (s : S) → longer S keeps more (at cs tape s) ≡ at cs (tape ++ more) s
  longer_at more cs tape s =
      ap (λ (t : Txn). keeps.with_txn (record t { tape = t.tape ++ more }) (at cs tape s)) (txn_at cs tape s)
      ∙ kept.twice (record (keeps.txn s) { charges = cs; tape = tape ++ more }) (record (keeps.txn s) { charges = cs; tape = tape }) s

  pub tape_at : (cs : List Entry) (tape : List Answer) (s : S) → (keeps.txn (at cs tape s)).tape ≡ tape
  tape_at cs tape s = ap (λ (t : Txn). t.tape) (txn_at cs tape s)

  pub overlay_at : (cs : List Entry) (tape : List Answer) (s : S) → (keeps.txn (at cs tape s)).overlay ≡ (keeps.txn s).overlay
  overlay_at cs tape s = ap (λ (t : Txn). t.overlay) (txn_at cs tape s)

  abbrev pub Only : S → S → Type 0
  Only s s1 = OnlyCharged S keeps s s1

  only_itself : (s : S) → Only s s
  only_itself s = ((keeps.txn s).charges, (keeps.txn s).tape, sym (at_itself s))

  only_more : (s s1 s2 : S) → Only s s1 → Only s1 s2 → Only s s2
  only_more s s1 s2 h k = (k.0, k.1, k.2 ∙ ap (at k.0 k.1) h.2 ∙ at_at k.0 h.0 k.1 h.1 s)

  abbrev pub Behind : {E A : Type 0} → List Answer → Res S E A → Type 0
  Behind tape r = IsBehind tape (left_at S keeps r)

  -- what is shown of each run
  pub record Tame (E A : Type 0) (f : S → Res S E A) : Type 0 where
    pub only : (s : S) → Holds (λ a s1. Only s s1) (λ why s1. Only s s1) (f s)
    pub leaves : (s : S) → Behind (keeps.txn s).tape (f s)
    pub goes_on : (more : List Answer) (s : S) → Continues S keeps more (f s) (f (longer S keeps more s))

  -- ---- one part after the other

  module _ {E A B : Type 0} (f : S → Res S E A) (g : A → S → Res S E B) (tf : Tame E A f) (tg : (a : A) → Tame E B (g a)) where
    held_more : (s : S) (r : Res S E A) → Holds (λ a s1. Only s s1) (λ why s1. Only s s1) r → Holds (λ b s1. Only s s1) (λ why s1. Only s s1) (bind r g)
    held_more s (Gives a s1) h = by (g a s1) ((tg a).only s1) where
      by : (r : Res S E B) → Holds (λ b s2. Only s1 s2) (λ why s2. Only s1 s2) r → Holds (λ b s2. Only s s2) (λ why s2. Only s s2) r
      by (Gives b s2) k = only_more s s1 s2 h k
      by (Stops why s2) k = only_more s s1 s2 h k
    held_more s (Stops why s1) h = h

    behind_more : (tape : List Answer) (r : Res S E A) → Behind tape r → Behind tape (bind r g)
    behind_more tape (Gives a s1) h = further_behind tape (keeps.txn s1).tape (left_at S keeps (g a s1)) h ((tg a).leaves s1)
    behind_more tape (Stops why s1) h = h

    takes_more : (more : List Answer) (r : Res S E A) → TakesOne more (left_at S keeps r) → TakesOne more (left_at S keeps (bind r g))
    takes_more [] r h = tt
    takes_more (a ∷ more) r h = behind_more more r h

    on_more : (more : List Answer) (r on : Res S E A) → Continues S keeps more r on → Continues S keeps more (bind r g) (bind on g)
    on_more more (Gives a s1) on e = subst (λ x. Continues S keeps more (g a s1) (bind x g)) (sym e) ((tg a).goes_on more s1)
    on_more more (Stops (Closes (Needs q)) s1) on h = (h.0, takes_more more on h.1)
    on_more more (Stops why s1) on e = ap (λ x. bind x g) e

    pub tame_bind : Tame E B (λ s. bind (f s) g)
    tame_bind = record {
      only = λ s. held_more s (f s) (tf.only s);
      leaves = λ s. behind_more (keeps.txn s).tape (f s) (tf.leaves s);
      goes_on = λ more s. on_more more (f s) (f (longer S keeps more s)) (tf.goes_on more s);
    }

  pub tame_gives : {E A : Type 0} (a : A) → Tame E A (λ s. Gives a s)
  tame_gives a = record { only = only_itself; leaves = λ s. ([], refl); goes_on = λ more s. refl }

  pub tame_throws : {E A : Type 0} (e : E) → Tame E A (λ s. Stops (Leaves e) s)
  tame_throws e = record { only = only_itself; leaves = λ s. ([], refl); goes_on = λ more s. refl }

  -- ---- charges

  module _ (E : Type 0) (k : LimitKind) (n : ℕ) where
    abbrev paid : Bool → List Entry → List Answer → S → Res S E (Unit {0})
    paid true cs tape s = Gives tt (at (Charged k n ∷ cs) tape s)
    paid false cs tape s = Stops (Closes (Halts k (limit_of k + 1))) (at cs tape s)

    pays : (b : Bool) (s : S) → charge_if keeps {E = E} b k n s ≡ paid b (keeps.txn s).charges (keeps.txn s).tape s
    pays true s = refl
    pays false s = ap (Stops (Closes (Halts k (limit_of k + 1)))) (sym (at_itself s))

    charge_at : (cs : List Entry) (tape : List Answer) (s : S) → charge keeps {E = E} k n (at cs tape s) ≡ paid (fits k n cs) cs tape s
    charge_at cs tape s =
        pays (fits k n (keeps.txn (at cs tape s)).charges) (at cs tape s)
        ∙ ap (λ (t : Txn). paid (fits k n t.charges) t.charges t.tape (at cs tape s)) (txn_at cs tape s) ∙ by (fits k n cs) where
          by : (b : Bool) → paid b cs tape (at cs tape s) ≡ paid b cs tape s
          by true = ap (λ s1. Gives tt s1) (at_at (Charged k n ∷ cs) cs tape tape s)
          by false = ap (Stops (Closes (Halts k (limit_of k + 1)))) (at_at cs cs tape tape s)

    abbrev Goes : List Answer → S → Res S E (Unit {0}) → Type 0
    Goes more s r = Continues S keeps more r (charge keeps {E = E} k n (longer S keeps more s))

    goes_paid : (b : Bool) (more : List Answer) (s : S) → Continues S keeps more (paid b (keeps.txn s).charges (keeps.txn s).tape s) (paid b (keeps.txn s).charges ((keeps.txn s).tape ++ more) s)
    goes_paid true more s = ap (λ s1. Gives tt s1) (sym (longer_at more (Charged k n ∷ (keeps.txn s).charges) (keeps.txn s).tape s))
    goes_paid false more s = ap (Stops (Closes (Halts k (limit_of k + 1)))) (sym (longer_at more (keeps.txn s).charges (keeps.txn s).tape s))

    only_paid : (b : Bool) (s : S) → Holds (λ a s1. Only s s1) (λ why s1. Only s s1) (charge_if keeps {E = E} b k n s)
    only_paid true s = (Charged k n ∷ (keeps.txn s).charges, (keeps.txn s).tape, refl)
    only_paid false s = only_itself s

    leaves_paid : (b : Bool) (s : S) → Behind (keeps.txn s).tape (charge_if keeps {E = E} b k n s)
    leaves_paid true s = ([], sym (tape_at (Charged k n ∷ (keeps.txn s).charges) (keeps.txn s).tape s))
    leaves_paid false s = ([], refl)

    pub tame_charge : Tame E (Unit {0}) (charge keeps k n)
    tame_charge = record {
      only = λ s. only_paid (fits k n (keeps.txn s).charges) s;
      leaves = λ s. leaves_paid (fits k n (keeps.txn s).charges) s;
      goes_on = λ more s.
          subst (Goes more s) (sym (pays (fits k n (keeps.txn s).charges) s))
          (subst (λ r. Continues S keeps more (paid (fits k n (keeps.txn s).charges) (keeps.txn s).charges (keeps.txn s).tape s) r)
          (sym (charge_at (keeps.txn s).charges ((keeps.txn s).tape ++ more) s)) (goes_paid (fits k n (keeps.txn s).charges) more s));
    }

  -- ---- inquiries

  module _ (E A : Type 0) where
    only_tape : (i : Inquiry A) (tape : List Answer) (s : S) → Holds (λ a s1. Only s s1) (λ why s1. Only s s1) (on_tape {E = E} keeps i tape s)
    only_tape (Found a) tape s = ((keeps.txn s).charges, tape, refl)
    only_tape (Asked q next) [] s = ((keeps.txn s).charges, [], refl)
    only_tape (Asked q next) (a ∷ tape) s = only_tape (next a) tape s

    leaves_tape : (i : Inquiry A) (tape : List Answer) (s : S) → Behind tape (on_tape {E = E} keeps i tape s)
    leaves_tape (Found a) tape s = ([], sym (tape_at (keeps.txn s).charges tape s))
    leaves_tape (Asked q next) [] s = ([], sym (tape_at (keeps.txn s).charges [] s))
    leaves_tape (Asked q next) (a ∷ tape) s = let h = leaves_tape (next a) tape s in (a ∷ h.0, ap (λ t. a ∷ t) h.1)

    goes_tape : (i : Inquiry A) (tape more : List Answer) (s : S) → Continues S keeps more (on_tape {E = E} keeps i tape s) (on_tape {E = E} keeps i (tape ++ more) s)
    goes_tape (Found a) tape more s = ap (λ s1. Gives a s1) (sym (longer_at more (keeps.txn s).charges tape s))
    goes_tape (Asked q next) [] [] s = (tape_at (keeps.txn s).charges [] s, tt)
    goes_tape (Asked q next) [] (a ∷ more) s = (tape_at (keeps.txn s).charges [] s, leaves_tape (next a) more s)
    goes_tape (Asked q next) (a ∷ tape) more s = goes_tape (next a) tape more s

    -- with its own tape an inquiry does what it does on it
    pub on_own : (i : Inquiry A) (s : S) → inquire {E = E} keeps i s ≡ on_tape keeps i (keeps.txn s).tape s
    on_own i s = ap (inquire {E = E} keeps i) (sym (at_itself s)) ∙ each_takes keeps kept i (keeps.txn s).tape s

    -- an inquiry that is made of the overlay
    module _ (of : Overlay → Inquiry A) where
      abbrev asks : S → Res S E A
      asks s = inquire keeps (of (keeps.txn s).overlay) s

      goes_asking : (more : List Answer) (s : S) → Continues S keeps more (asks s) (asks (longer S keeps more s))
      goes_asking more s =
          subst (λ r. Continues S keeps more r (asks (longer S keeps more s))) (sym (on_own (of (keeps.txn s).overlay) s))
          (subst (λ r. Continues S keeps more (on_tape keeps (of (keeps.txn s).overlay) (keeps.txn s).tape s) r)
          (sym (ap (λ v. inquire {E = E} keeps (of v) (longer S keeps more s)) (overlay_at (keeps.txn s).charges ((keeps.txn s).tape ++ more) s)
          ∙ each_takes keeps kept (of (keeps.txn s).overlay) ((keeps.txn s).tape ++ more) s))
          (goes_tape (of (keeps.txn s).overlay) (keeps.txn s).tape more s))

      pub tame_asking : Tame E A asks
      tame_asking = record {
        only = λ s. subst (Holds (λ a s1. Only s s1) (λ why s1. Only s s1)) (sym (on_own (of (keeps.txn s).overlay) s)) (only_tape (of (keeps.txn s).overlay) (keeps.txn s).tape s);
        leaves = λ s. subst (Behind (keeps.txn s).tape) (sym (on_own (of (keeps.txn s).overlay) s)) (leaves_tape (of (keeps.txn s).overlay) (keeps.txn s).tape s);
        goes_on = goes_asking;
      }
