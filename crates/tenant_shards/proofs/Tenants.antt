-- Tenants by their numbers.
use Rattle.std.proofs.Common.{◌≡◌, refl, sym, ap, ◌∙◌, ℕ, eqb, Bool, true, false, List, [], ◌∷◌, ◌++◌, Option, None, Some}
use Rattle.std.proofs.lemmas.Bool.{eqb-true, eqb-false, eq-eqb}
use Rattle.std.specs.Prelude.{cond, filter, map}
use Rattle.apex_requests.specs.declared.reply.Event.{Event}
use Rattle.tenant_parts.specs.declared.part.TenantPart.{TenantPart}
use Rattle.tenant_shards.specs.declared.kept.Entry.{Entry}
use Rattle.tenant_shards.specs.declared.kept.Kept.{Kept}
use Rattle.tenant_shards.specs.Tenants.{AreKept, Tenants, kept_at, part_of, part_at, trail_in}

some_is : {A : Type 0} {a b : A} → Some a ≡ Some b → a ≡ b
some_is e = cc

pub kept_from : (k : Option Kept) (p : TenantPart) → part_of k ≡ Some p → (kept : Kept) × (k ≡ Some kept)
kept_from None p e = cc
kept_from (Some kept) p e = (kept, refl)

pub same_kept : (a : Option Kept) (x y : Kept) → a ≡ Some x → a ≡ Some y → x ≡ y
same_kept a x y e f = some_is (sym e ∙ f)

pub part_is : (a b : Option Kept) (x y : Kept) → a ≡ Some x → b ≡ Some y → part_of b ≡ part_of a → y.part ≡ x.part
part_is a b x y e f p = some_is (sym (ap part_of f) ∙ p ∙ ap part_of e)

-- ---- what is kept stays there

module _ (tenant : ℕ) (before after : Tenants) (part : part_at tenant after ≡ part_at tenant before) (others : (other : ℕ) → (other ≡ tenant → ⊥) → kept_at other after ≡ kept_at other before) where
  stays : (n : ℕ) → (kept : Kept) × (kept_at n before ≡ Some kept) → (kept : Kept) × (kept_at n after ≡ Some kept)
  stays n h = by (eqb n tenant) refl where
    by : (b : Bool) → eqb n tenant ≡ b → (kept : Kept) × (kept_at n after ≡ Some kept)
    by true e =
        let same : n ≡ tenant = eqb-true n tenant e in
        kept_from (kept_at n after) h.0.part (ap (λ m. part_at m after) same ∙ part ∙ ap (λ m. part_at m before) (sym same) ∙ ap part_of h.1)
    by false e = (h.0, others n (eqb-false n tenant e) ∙ h.1)

  pub all_stay : (ns : List ℕ) → AreKept ns before → AreKept ns after
  all_stay [] h = tt
  all_stay (n ∷ ns) h = (stays n h.0, all_stay ns h.1)

pub all_kept : (before after : Tenants) → ((n : ℕ) → kept_at n after ≡ kept_at n before) → (ns : List ℕ) → AreKept ns before → AreKept ns after
all_kept before after same [] h = tt
all_kept before after same (n ∷ ns) h = ((h.0.0, same n ∙ h.0.1), all_kept before after same ns h.1)

pub same_all : (tenant : ℕ) (before after : Tenants) → kept_at tenant after ≡ kept_at tenant before → ((other : ℕ) → (other ≡ tenant → ⊥) → kept_at other after ≡ kept_at other before) → (n : ℕ) → kept_at n after ≡ kept_at n before
same_all tenant before after own others n = by (eqb n tenant) refl where
  by : (b : Bool) → eqb n tenant ≡ b → kept_at n after ≡ kept_at n before
  by true e = let same : n ≡ tenant = eqb-true n tenant e in ap (λ m. kept_at m after) same ∙ own ∙ ap (λ m. kept_at m before) (sym same)
  by false e = others n (eqb-false n tenant e)

-- ---- trails

abbrev event_in : Entry → Event
event_in e = e.event

abbrev is_of : ℕ → Entry → Bool
is_of tenant e = eqb e.tenant tenant

one_more : (f : Entry) (e : Event) (b : Bool) (more fs : List Entry) → map event_in more ≡ map event_in fs ++ e ∷ [] → map event_in (cond b (f ∷ more) more) ≡ map event_in (cond b (f ∷ fs) fs) ++ e ∷ []
one_more f e true more fs h = ap (λ es. f.event ∷ es) h
one_more f e false more fs h = h

none_more : (f : Entry) (b : Bool) (more fs : List Entry) → map event_in more ≡ map event_in fs → map event_in (cond b (f ∷ more) more) ≡ map event_in (cond b (f ∷ fs) fs)
none_more f true more fs h = ap (λ es. f.event ∷ es) h
none_more f false more fs h = h

pub trail_own : (t : ℕ) (es : List Entry) (e : Event) → trail_in t (es ++ record { tenant = t; event = e } ∷ []) ≡ trail_in t es ++ e ∷ []
trail_own t [] e = ap (λ b. map event_in (cond b (record { tenant = t; event = e } ∷ []) [])) (eq-eqb t t refl)
trail_own t (f ∷ es) e = one_more f e (eqb f.tenant t) (filter (is_of t) (es ++ record { tenant = t; event = e } ∷ [])) (filter (is_of t) es) (trail_own t es e)

apart : (a b : ℕ) → (a ≡ b → ⊥) → eqb a b ≡ false
apart a b n = by (eqb a b) refl where
  by : (c : Bool) → eqb a b ≡ c → eqb a b ≡ false
  by true e = absurd (n (eqb-true a b e))
  by false e = e

pub trail_other : (t n : ℕ) (es : List Entry) (e : Event) → (n ≡ t → ⊥) → trail_in n (es ++ record { tenant = t; event = e } ∷ []) ≡ trail_in n es
trail_other t n [] e other = ap (λ b. map event_in (cond b (record { tenant = t; event = e } ∷ []) [])) (apart t n (λ q. other (sym q)))
trail_other t n (f ∷ es) e other = none_more f (eqb f.tenant n) (filter (is_of n) (es ++ record { tenant = t; event = e } ∷ [])) (filter (is_of n) es) (trail_other t n es e other)
