-- What all code keeps of a request: counters within their limits, and what was said.
use Rattle.std.proofs.Common.{◌≡◌, ℕ, ◌+◌, ◌-◌, ◌≤◌, Bool, true, false, cond, List, [], ◌∷◌, ◌++◌, length, Some, refl, sym, ap, ◌∙◌, subst, true≢false, append_assoc, append-nil, zero-add, arith, ⊎_elim}
use Rattle.std.specs.Prelude.{slice_get}
use Rattle.std.proofs.lemmas.Bool.{leb-true}
use Rattle.std.proofs.lemmas.Bool.Decides.{eqb_tells}
use Rattle.apex_num.specs.declared.kind.LimitKind.{LimitKind}
use Rattle.apex_num.specs.declared.kind.LimitKind.TheVariants.{Queries, Rows, Dml, Saved, Depth, Steps, Alloc, Calls}
use Rattle.limit_meter.specs.Charges.{place_of, is_kind, Entry, Charged, Left, charged, leaves, counter, limit_of, fits}
use Rattle.request_states.specs.States.{World}
use Rattle.typed_program.specs.declared.program.Program.{Program}
use Rattle.language_laws.proofs.Prepared.{Statics, Stay, prepared_below, more_prepared, prepared_at_most}

-- ---- charges

-- steps and units are never left again, and no counter is above its limit
pub record Sound (es : List Entry) : Type 0 where
  pub steps : leaves Steps es ≡ 0
  pub units : leaves Alloc es ≡ 0
  pub within : (k : LimitKind) → counter k es ≤ limit_of k

kinds : List LimitKind
kinds = Queries ∷ Rows ∷ Dml ∷ Saved ∷ Depth ∷ Steps ∷ Alloc ∷ Calls ∷ []

stands_at : (k : LimitKind) → slice_get kinds (place_of k) ≡ Some k
unfolding kinds
stands_at Queries = refl
stands_at Rows = refl
stands_at Dml = refl
stands_at Saved = refl
stands_at Depth = refl
stands_at Steps = refl
stands_at Alloc = refl
stands_at Calls = refl

one_kind : (j k : LimitKind) → place_of j ≡ place_of k → j ≡ k
one_kind j k e = some (sym (stands_at j) ∙ ap (λ p. slice_get kinds p) e ∙ stands_at k)
  where
    some : Some j ≡ Some k → j ≡ k
    some h = cc

fewer : (a b c : ℕ) → a - (b + c) ≤ a - c
fewer a b c = omega arith

same_less : (n a c : ℕ) → (0 + a) - c ≡ a - c
same_less n a c = omega arith

more_less : (n a c : ℕ) → (n + a) - c ≤ (a - c) + n
more_less n a c = omega arith

pub sound_charged : (k : LimitKind) (n : ℕ) (es : List Entry) → fits k n es ≡ true → Sound es → Sound (Charged k n ∷ es)
sound_charged k n es f h = record { steps = h.steps; units = h.units; within = within }
  where
    case : (j : LimitKind) (b : Bool) → (b ≡ true → j ≡ k) → (cond b n 0 + charged j es) - leaves j es ≤ limit_of j
    case j true e =
        let l : counter k es + n ≤ limit_of k = leb-true _ _ f in
        subst (λ x. (n + charged x es) - leaves x es ≤ limit_of x) (sym (e refl)) (let m = more_less n (charged k es) (leaves k es) in omega arith)
    case j false e = let l = h.within j in let m = same_less n (charged j es) (leaves j es) in omega arith

    within : (j : LimitKind) → counter j (Charged k n ∷ es) ≤ limit_of j
    within j = case j (is_kind j k) (⊎_elim (λ e u. one_kind j k e.1) (λ e u. absurd (true≢false (sym u ∙ e.0))) (eqb_tells (place_of j) (place_of k)))

-- neither steps nor units
pub record Leavable (k : LimitKind) : Type 0 where
  pub no_steps : is_kind Steps k ≡ false
  pub no_units : is_kind Alloc k ≡ false

none_more : (b : Bool) (n : ℕ) → b ≡ false → cond b 1 0 + n ≡ n
none_more true n e = absurd (true≢false e)
none_more false n e = zero-add n

pub sound_left : (k : LimitKind) (es : List Entry) → Leavable k → Sound es → Sound (Left k ∷ es)
sound_left k es not h = record {
  steps = none_more (is_kind Steps k) _ not.no_steps ∙ h.steps;
  units = none_more (is_kind Alloc k) _ not.no_units ∙ h.units;
  within = λ j. let l = h.within j in let m = fewer (charged j es) (cond (is_kind j k) 1 0) (leaves j es) in omega arith;
}

pub left_calls : Leavable Calls
left_calls = record { no_steps = refl; no_units = refl }

pub left_depth : Leavable Depth
left_depth = record { no_steps = refl; no_units = refl }

pub sound_none : Sound []
sound_none = record { steps = refl; units = refl; within = λ j. omega arith }

-- ---- what pays for rounds: steps, units and prepared classes

module _ (program : Program) where
  abbrev pub spent_on : List Entry → Statics → ℕ
  spent_on es statics = charged Steps es + charged Alloc es + prepared_below (length program.classes) statics

  abbrev pub spent : World → ℕ
  spent w = spent_on w.txn.charges w.statics

  abbrev pub most_spent : ℕ
  most_spent = limit_of Steps + limit_of Alloc + length program.classes

  all_there : (c l m : ℕ) → l ≡ 0 → c - l ≤ m → c ≤ m
  all_there c l m e le = omega arith

  sum_of : (a b c x y z : ℕ) → a ≤ x → b ≤ y → c ≤ z → a + b + c ≤ x + y + z
  sum_of a b c x y z h k l = omega arith

  pub spent_at_most : (w : World) → Sound w.txn.charges → spent w ≤ most_spent
  spent_at_most w h =
      sum_of _ _ _ (limit_of Steps) (limit_of Alloc) (length program.classes)
      (all_there (charged Steps w.txn.charges) (leaves Steps w.txn.charges) (limit_of Steps) h.steps (h.within Steps))
      (all_there (charged Alloc w.txn.charges) (leaves Alloc w.txn.charges) (limit_of Alloc) h.units (h.within Alloc))
      (prepared_at_most (length program.classes) w.statics)

  -- what was said stays
  pub record Says (before after : List (List ℕ)) : Type 0 where
    pub more : List (List ℕ)
    pub is : after ≡ before ++ more

  -- the second world is one that code comes to from the first
  pub record Later (w v : World) : Type 0 where
    pub sound : Sound v.txn.charges
    pub spent : spent w ≤ spent v
    pub said : Says w.debug v.debug

  says_same : (ls : List (List ℕ)) → Says ls ls
  says_same ls = record { more = []; is = sym (append-nil ls) }

  -- with other charges and statics
  pub later_by : (w v : World) → Sound v.txn.charges → spent w ≤ spent v → w.debug ≡ v.debug → Later w v
  later_by w v h le e = record { sound = h; spent = le; said = record { more = []; is = sym e ∙ sym (append-nil w.debug) } }

  -- with these of a world that has the same charges, statics and lines
  pub later_same : (w : World) → Sound w.txn.charges → Later w w
  later_same w h = record { sound = h; spent = omega arith; said = says_same w.debug }

  same_spent : (w v : World) → v.txn.charges ≡ w.txn.charges → v.statics ≡ w.statics → spent w ≡ spent v
  same_spent w v c s = λ i. spent_on (sym c i) (sym s i)

  at_least : (m n : ℕ) → m ≡ n → m ≤ n
  at_least m n e = omega arith

  -- what else a world has may become anything
  pub later_kept : (w v : World) → Sound w.txn.charges → v.txn.charges ≡ w.txn.charges → v.statics ≡ w.statics → v.debug ≡ w.debug → Later w v
  later_kept w v h c s d = record { sound = subst Sound (sym c) h; spent = at_least _ _ (same_spent w v c s); said = record { more = []; is = d ∙ sym (append-nil w.debug) } }

  pub later_on : (u w v : World) → Later u w → Later w v → Later u v
  later_on u w v a b =
      let x = a.spent in let y = b.spent in
      let s = a.said in let t = b.said in
      record { sound = b.sound; spent = omega arith; said = record { more = s.more ++ t.more; is = t.is ∙ ap (λ l. l ++ t.more) s.is ∙ append_assoc u.debug s.more t.more } }

  pub later_line : (w : World) (text : List ℕ) → Sound w.txn.charges → Later w (record w { debug = w.debug ++ text ∷ [] })
  later_line w text h = record { sound = h; spent = omega arith; said = record { more = text ∷ []; is = refl } }

  later_statics_le : (a b m n : ℕ) → m ≤ n → a + b + m ≤ a + b + n
  later_statics_le a b m n le = omega arith

  pub later_statics : (w : World) (statics : Statics) → Sound w.txn.charges → Stay w.statics statics → Later w (record w { statics = statics })
  later_statics w statics h s = later_by w _ h (later_statics_le _ _ _ _ (more_prepared (length program.classes) w.statics statics s)) refl

  charged_le : (a b c x y : ℕ) → a + b + c ≤ (x + a) + (y + b) + c
  charged_le a b c x y = omega arith

  pub later_charged : (w : World) (k : LimitKind) (n : ℕ) → fits k n w.txn.charges ≡ true → Sound w.txn.charges → Later w (record w { txn = record (w.txn) { charges = Charged k n ∷ w.txn.charges } })
  later_charged w k n f h = later_by w _ (sound_charged k n _ f h) (charged_le _ _ _ (cond (is_kind Steps k) n 0) (cond (is_kind Alloc k) n 0)) refl

  pub later_left : (w : World) (k : LimitKind) → Leavable k → Sound w.txn.charges → Later w (record w { txn = record (w.txn) { charges = Left k ∷ w.txn.charges } })
  later_left w k not h = later_by w _ (sound_left k _ not h) (omega arith) refl

  step_spends : (a b c n : ℕ) → 1 ≤ n → 1 + (a + b + c) ≤ (n + a) + (0 + b) + c
  step_spends a b c n le = omega arith

  unit_spends : (a b c n : ℕ) → 1 ≤ n → 1 + (a + b + c) ≤ (0 + a) + (n + b) + c
  unit_spends a b c n le = omega arith

  -- a step and an allocation unit pay
  pub spends_steps : (w : World) (n : ℕ) → 1 ≤ n → 1 + spent w ≤ spent (record w { txn = record (w.txn) { charges = Charged Steps n ∷ w.txn.charges } })
  spends_steps w n le = step_spends _ _ _ n le

  pub spends_units : (w : World) (n : ℕ) → 1 ≤ n → 1 + spent w ≤ spent (record w { txn = record (w.txn) { charges = Charged Alloc n ∷ w.txn.charges } })
  spends_units w n le = unit_spends _ _ _ n le
