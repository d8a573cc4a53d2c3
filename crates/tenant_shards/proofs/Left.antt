-- Trails by the numbers of their tenants, and what is left of a shard.
use Rattle.std.proofs.Common.{arith, ◌≡◌, refl, sym, ap, subst, ◌∙◌, ℕ, zero, suc, ◌+◌, ◌<◌, ◌≤◌, eqb, cond, Bool, true, false, List, [], ◌∷◌, ◌++◌, length, take, get_or, Option, None, Some}
use Rattle.std.specs.BTreeMap.{is_at}
use Rattle.std.specs.FinMap.{nat_cmp-IsAntisymmetric}
use Rattle.std.specs.List.{list_any}
use Rattle.std.specs.Option.{is_some}
use Rattle.std.specs.Ordering.{nat_cmp, is_eq}
use Rattle.std.specs.Prelude.{◌||◌, IfOk, Result, Ok, Err}
use Rattle.std.specs.declared.cmp.Ordering.{Ordering}
use Rattle.std.specs.declared.cmp.Ordering.TheVariants.{Less, Equal, Greater}
use Rattle.std.proofs.lemmas.Bool.{eqb-true, eqb-false, or_parts}
use Rattle.std.proofs.lemmas.List.{take_more}
use Rattle.apex_requests.specs.declared.reply.Event.{Event}
use Rattle.tenant_shards.specs.declared.finish.Finished.{Finished}
use Rattle.tenant_shards.specs.declared.kept.Entry.{Entry}
use Rattle.tenant_shards.specs.declared.kept.Kept.{Kept}
use Rattle.tenant_shards.specs.Finishes.{AreFinished, AreLeft, IsLeft, Trails, or_none, trail_at}
use Rattle.tenant_shards.specs.Shards.{IsSound, Shared}
use Rattle.tenant_shards.specs.Tenants.{AreKept, Differ, Tenants, kept_at, trail_in}
use Rattle.tenant_shards.proofs.Tenants.{trail_own, trail_other}

-- ---- by the map

pub is_none : {X : Type 0} (o : Option X) → is_some o ≡ false → o ≡ None
is_none None h = refl
is_none (Some x) h = absurd (cc)

pub same_tenant : (a b : ℕ) → is_eq (nat_cmp a b) ≡ true → a ≡ b
same_tenant a b h = by (nat_cmp a b) refl h where
  by : (o : Ordering) → nat_cmp a b ≡ o → is_eq o ≡ true → a ≡ b
  by Equal e k = nat_cmp-IsAntisymmetric a b e
  by Less e k = absurd (cc)
  by Greater e k = absurd (cc)

-- a tenant that comes in has no events, and others have theirs
pub comes_in : (tenant q : ℕ) (new : List Event) (before after was : Option (List Event)) → new ≡ [] → after ≡ cond (is_at (nat_cmp tenant) q) (Some new) before → was ≡ None → (is_at (nat_cmp tenant) q ≡ true → before ≡ was) → or_none after ≡ or_none before
comes_in tenant q new before after was empty e none same = ap or_none e ∙ by (is_at (nat_cmp tenant) q) refl where
  by : (b : Bool) → is_at (nat_cmp tenant) q ≡ b → or_none (cond b (Some new) before) ≡ or_none before
  by true k = empty ∙ sym (ap or_none (same k ∙ none))
  by false k = refl

pub apart : (n q : ℕ) → (q ≡ n → ⊥) → is_at (nat_cmp n) q ≡ false
apart n q other = by (is_at (nat_cmp n) q) refl where
  by : (b : Bool) → is_at (nat_cmp n) q ≡ b → is_at (nat_cmp n) q ≡ false
  by true e = absurd (other (sym (same_tenant n q e)))
  by false e = e

-- ---- the entries so far

pub gathers : (before after : Trails) (front : List Entry) (e : Entry) → ((n : ℕ) → trail_at n before ≡ trail_in n front) → trail_at e.tenant after ≡ trail_at e.tenant before ++ e.event ∷ [] → ((other : ℕ) → (other ≡ e.tenant → ⊥) → trail_at other after ≡ trail_at other before) → (n : ℕ) → trail_at n after ≡ trail_in n (front ++ e ∷ [])
gathers before after front e h own others n = by (eqb n e.tenant) refl where
  by : (b : Bool) → eqb n e.tenant ≡ b → trail_at n after ≡ trail_in n (front ++ e ∷ [])
  by true q =
      let same : n ≡ e.tenant = eqb-true n e.tenant q in
      ap (λ m. trail_at m after) same ∙ own ∙ ap (λ t. t ++ e.event ∷ []) (h e.tenant) ∙ sym (trail_own e.tenant front e.event) ∙ ap (λ m. trail_in m (front ++ e ∷ [])) (sym same)
  by false q = let other = eqb-false n e.tenant q in others n other ∙ h n ∙ sym (trail_other e.tenant n front e.event other)

-- ---- tenant by tenant

kept_there : (all : Tenants) (ns : List ℕ) (i n : ℕ) → AreKept ns all → i < length ns → n ≡ get_or ns i n → (kept : Kept) × (kept_at n all ≡ Some kept)
kept_there all [] i n h lt e = absurd (omega (arith, lt))
kept_there all (m ∷ ns) zero n h lt e = (h.0.0, ap (λ k. kept_at k all) e ∙ h.0.1)
kept_there all (m ∷ ns) (suc i) n h lt e = kept_there all ns i n h.1 (omega (arith, lt)) e

eqb_sym : (a b : ℕ) → eqb a b ≡ false → eqb b a ≡ false
eqb_sym a b e = by (eqb b a) refl where
  by : (c : Bool) → eqb b a ≡ c → eqb b a ≡ false
  by true f = absurd (eqb-false a b e (sym (eqb-true b a f)))
  by false f = f

at_place : (ns : List ℕ) (m i n : ℕ) → list_any (eqb m) ns ≡ false → i < length ns → n ≡ get_or ns i n → eqb n m ≡ false
at_place [] m i n h lt e = absurd (omega (arith, lt))
at_place (k ∷ ns) m zero n h lt e = subst (λ x. eqb x m ≡ false) (sym e) (eqb_sym m k (or_parts (eqb m k) (list_any (eqb m) ns) h).0)
at_place (k ∷ ns) m (suc i) n h lt e = at_place ns m i n (or_parts (eqb m k) (list_any (eqb m) ns) h).1 (omega (arith, lt)) e

or_false : (a b : Bool) → a ≡ false → b ≡ false → (a || b) ≡ false
or_false true b e f = e
or_false false b e f = f

not_before : (ns : List ℕ) (i n : ℕ) → Differ ns → i < length ns → n ≡ get_or ns i n → list_any (eqb n) (take i ns) ≡ false
not_before [] i n d lt e = absurd (omega (arith, lt))
not_before (m ∷ ns) zero n d lt e = refl
not_before (m ∷ ns) (suc i) n d lt e = or_false (eqb n m) (list_any (eqb n) (take i ns)) (at_place ns m i n d.0 (omega (arith, lt)) e) (not_before ns i n d.1 (omega (arith, lt)) e)

not_among : (ns : List ℕ) (n m : ℕ) → list_any (eqb n) (ns ++ m ∷ []) ≡ false → (list_any (eqb n) ns ≡ false) × (n ≡ m → ⊥)
not_among [] n m e = (refl, eqb-false n m (or_parts (eqb n m) false e).0)
not_among (k ∷ ns) n m e =
    let parts = or_parts (eqb n k) (list_any (eqb n) (ns ++ m ∷ [])) e in
    let rest = not_among ns n m parts.1 in
    (or_false (eqb n k) (list_any (eqb n) ns) parts.0 rest.0, rest.1)

some_none : {A : Type 0} {a : A} → ◌≡◌ {A = Option A} (Some a) None → ⊥
some_none e = cc

pub default_same : (ns : List ℕ) (i a b : ℕ) → i < length ns → get_or ns i a ≡ get_or ns i b
default_same [] i a b lt = absurd (omega (arith, lt))
default_same (n ∷ ns) zero a b lt = refl
default_same (n ∷ ns) (suc i) a b lt = default_same ns i a b (omega (arith, lt))

left_more : (all : Tenants) (trails : Trails) (ns : List ℕ) (fs : List Finished) (n : ℕ) (f : Finished) → AreLeft all trails ns fs → IsLeft all trails n f → AreLeft all trails (ns ++ n ∷ []) (fs ++ f ∷ [])
left_more all trails [] [] n f h i = (i, tt)
left_more all trails [] (g ∷ fs) n f h i = absurd h
left_more all trails (m ∷ ns) [] n f h i = absurd h
left_more all trails (m ∷ ns) (g ∷ fs) n f h i = (h.0, left_more all trails ns fs n f h.1 i)

pub record StandsAt (first now : Tenants) (trails left : Trails) (ns : List ℕ) (i : ℕ) (fs : List Finished) : Type 0 where
  pub left_are : AreLeft first trails (take i ns) fs
  pub kept : (n : ℕ) → list_any (eqb n) (take i ns) ≡ false → kept_at n now ≡ kept_at n first
  pub trail : (n : ℕ) → list_any (eqb n) (take i ns) ≡ false → trail_at n left ≡ trail_at n trails

pub at_start : (first : Tenants) (trails : Trails) (ns : List ℕ) (fs : List Finished) → fs ≡ [] → StandsAt first first trails trails ns 0 fs
at_start first trails ns fs e = record { left_are = subst (AreLeft first trails []) (sym e) tt; kept = λ n h. refl; trail = λ n h. refl }

module _ (first now next : Tenants) (trails left later : Trails) (ns : List ℕ) (i n : ℕ) (fs : List Finished) (d : Differ ns) (lt : i < length ns) (here : n ≡ get_or ns i n) (stands : StandsAt first now trails left ns i fs) where
  -- it is there still
  pub still : kept_at n now ≡ kept_at n first
  still = stands.kept n (not_before ns i n d lt here)

  pub still_trail : trail_at n left ≡ trail_at n trails
  still_trail = stands.trail n (not_before ns i n d lt here)

  pub never_gone : AreKept ns first → kept_at n now ≡ None → ⊥
  never_gone k e = some_none (sym (kept_there first ns i n k lt here).1 ∙ sym still ∙ e)

  fronts : take (i + 1) ns ≡ take i ns ++ n ∷ []
  fronts = take_more ns i n lt ∙ ap (λ m. take i ns ++ m ∷ []) (sym here)

  pub next_stands : ((q : ℕ) → is_at (nat_cmp n) q ≡ false → kept_at q next ≡ kept_at q now) → ((q : ℕ) → (q ≡ n → ⊥) → trail_at q later ≡ trail_at q left) → (gs : List Finished) (f : Finished) → IsLeft first trails n f → gs ≡ fs ++ f ∷ [] → StandsAt first next trails later ns (i + 1) gs
  next_stands updates others gs f is e = record {
    left_are = subst (λ front. AreLeft first trails front gs) (sym fronts) (subst (AreLeft first trails (take i ns ++ n ∷ [])) (sym e) (left_more first trails (take i ns) fs n f stands.left_are is));
    kept = λ q out.
        let parts = not_among (take i ns) q n (subst (λ front. list_any (eqb q) front ≡ false) fronts out) in
        updates q (apart n q parts.1) ∙ stands.kept q parts.0;
    trail = λ q out.
        let parts = not_among (take i ns) q n (subst (λ front. list_any (eqb q) front ≡ false) fronts out) in
        others q parts.1 ∙ stands.trail q parts.0;
  }

pub at_end : (first now : Tenants) (trails left : Trails) (ns : List ℕ) (i : ℕ) (fs : List Finished) → length ns ≤ i → StandsAt first now trails left ns i fs → AreLeft first trails ns fs
at_end first now trails left ns i fs le s = subst (λ xs. AreLeft first trails xs fs) (whole ns i le) s.left_are where
  whole : (ns : List ℕ) (i : ℕ) → length ns ≤ i → take i ns ≡ ns
  whole [] zero le = refl
  whole [] (suc i) le = refl
  whole (n ∷ ns) zero le = absurd (omega (arith, le))
  whole (n ∷ ns) (suc i) le = ap (λ t. n ∷ t) (whole ns i (omega (arith, le)))

-- ---- of a shard

pub finished : (shard : Shared) (trails : Trails) → IsSound shard → ((n : ℕ) → trail_at n trails ≡ trail_in n shard.entries) → (ns : List ℕ) (fs : List Finished) → AreLeft shard.tenants trails ns fs → AreFinished shard ns fs
finished shard trails s t [] [] h = tt
finished shard trails s t [] (f ∷ fs) h = absurd h
finished shard trails s t (n ∷ ns) [] h = absurd h
finished shard trails s t (n ∷ ns) (f ∷ fs) h =
    (record { kept = h.0.kept; is_kept = h.0.is_kept; number = h.0.number; part = h.0.part; trail = h.0.trail ∙ t n; legal = s.legal n h.0.kept h.0.is_kept }, finished shard trails s t ns fs h.1)

pub all_finished : {E : Type 0} (r : Result (List Finished) E) (shard : Shared) (trails : Trails) → IsSound shard → ((n : ℕ) → trail_at n trails ≡ trail_in n shard.entries) → (ns : List ℕ) → IfOk r (AreLeft shard.tenants trails ns) → IfOk r (AreFinished shard ns)
all_finished (Ok fs) shard trails s t ns h = finished shard trails s t ns fs h
all_finished (Err e) shard trails s t ns h = tt
