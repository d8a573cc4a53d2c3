-- Tenants that come in, one behind the other.
use Rattle.std.proofs.Common.{arith, ◌≡◌, refl, sym, ap, subst, ◌∙◌, ℕ, eqb, Bool, true, false, List, [], ◌∷◌, ◌++◌, append_assoc, append-nil, length, map, replicate, Option, None, Some}
use Rattle.std.specs.List.{list_any}
use Rattle.std.specs.Prelude.{◌||◌}
use Rattle.std.proofs.lemmas.Bool.{eqb-true, eqb-false, or_parts}
use Rattle.record_store.specs.Heaps.{Heap, rows_in}
use Rattle.session_states.specs.States.{fresh}
use Rattle.tenant_parts.specs.declared.part.TenantPart.{TenantPart}
use Rattle.tenant_parts.specs.declared.session.Session.{Session as PartSession}
use Rattle.legal_trails.specs.Legal.{Session, first_state}
use Rattle.tenant_shards.specs.declared.kept.Kept.{Kept}
use Rattle.tenant_shards.specs.Parts.{counts_of, seeded, tenant_of}
use Rattle.tenant_shards.specs.Shards.{AreOpened, IsOpened, IsSound, Shared, numbers}
use Rattle.tenant_shards.specs.Tenants.{AreKept, Differ, Tenants, kept_at}

abbrev Numbered : Type 0
Numbered = ℕ × TenantPart

-- nothing happened, and nothing is held
abbrev pub opening : List ℕ → Tenants → Heap → Shared
opening order tenants rows = record { order = order; tenants = tenants; rows = rows; locks = []; entries = [] }

-- ---- numbers that differ

eqb_sym : (a b : ℕ) → eqb a b ≡ false → eqb b a ≡ false
eqb_sym a b e = by (eqb b a) refl where
  by : (c : Bool) → eqb b a ≡ c → eqb b a ≡ false
  by true f = absurd (eqb-false a b e (sym (eqb-true b a f)))
  by false f = f

or_false : (a b : Bool) → a ≡ false → b ≡ false → (a || b) ≡ false
or_false true b e f = e
or_false false b e f = f

not_among : (ns : List ℕ) (n m : ℕ) → list_any (eqb n) (ns ++ m ∷ []) ≡ false → (list_any (eqb n) ns ≡ false) × (n ≡ m → ⊥)
not_among [] n m e = (refl, eqb-false n m (or_parts (eqb n m) false e).0)
not_among (k ∷ ns) n m e =
    let parts = or_parts (eqb n k) (list_any (eqb n) (ns ++ m ∷ [])) e in
    let rest = not_among ns n m parts.1 in
    (or_false (eqb n k) (list_any (eqb n) ns) parts.0 rest.0, rest.1)

numbers_more : (ps : List Numbered) (p : Numbered) → numbers (ps ++ p ∷ []) ≡ numbers ps ++ p.0 ∷ []
numbers_more [] p = refl
numbers_more (q ∷ ps) p = ap (λ ns. q.0 ∷ ns) (numbers_more ps p)

apart : (ps rest : List Numbered) (p : Numbered) (m : ℕ) → list_any (eqb m) (numbers (ps ++ p ∷ rest)) ≡ false → eqb m p.0 ≡ false
apart [] rest p m h = (or_parts (eqb m p.0) (list_any (eqb m) (numbers rest)) h).0
apart (q ∷ ps) rest p m h = apart ps rest p m (or_parts (eqb m q.0) (list_any (eqb m) (numbers (ps ++ p ∷ rest))) h).1

new_number : (ps rest : List Numbered) (p : Numbered) → Differ (numbers (ps ++ p ∷ rest)) → list_any (eqb p.0) (numbers ps) ≡ false
new_number [] rest p d = refl
new_number (q ∷ ps) rest p d = or_false (eqb p.0 q.0) (list_any (eqb p.0) (numbers ps)) (eqb_sym q.0 p.0 (apart ps rest p q.0 d.0)) (new_number ps rest p d.1)

-- ---- one tenant more

module _ (before after : Shared) (p : Numbered) (opened : IsOpened after p) (kept : (other : ℕ) → (other ≡ p.0 → ⊥) → kept_at other after.tenants ≡ kept_at other before.tenants) (rows : (other : ℕ) → (other ≡ p.0 → ⊥) → rows_in other after.rows ≡ rows_in other before.rows) where
  stays_open : (q : Numbered) → (q.0 ≡ p.0 → ⊥) → IsOpened before q → IsOpened after q
  stays_open q other h = record { kept = kept q.0 other ∙ h.kept; rows = rows q.0 other ∙ h.rows }

  all_opened : (ps rest : List Numbered) → Differ (numbers (ps ++ p ∷ rest)) → AreOpened before ps → AreOpened after (ps ++ p ∷ [])
  all_opened [] rest d h = (opened, tt)
  all_opened (q ∷ ps) rest d h = (stays_open q (eqb-false q.0 p.0 (apart ps rest p q.0 d.0)) h.0, all_opened ps rest d.1 h.1)

  part_same : (k : Kept) → kept_at p.0 after.tenants ≡ Some k → p.1 ≡ k.part
  part_same k is = some_part (sym opened.kept ∙ is) where
    some_part : {a b : Kept} → Some a ≡ Some b → a.part ≡ b.part
    some_part e = cc

  only_opened : ((n : ℕ) (k : Kept) → kept_at n before.tenants ≡ Some k → IsOpened before (n, k.part)) → (n : ℕ) (k : Kept) → kept_at n after.tenants ≡ Some k → IsOpened after (n, k.part)
  only_opened only n k is = by (eqb n p.0) refl where
    by : (b : Bool) → eqb n p.0 ≡ b → IsOpened after (n, k.part)
    by true e =
        let same : n ≡ p.0 = eqb-true n p.0 e in
        subst (λ m. IsOpened after (m, k.part)) (sym same) (subst (λ part. IsOpened after (p.0, part)) (part_same k (ap (λ m. kept_at m after.tenants) (sym same) ∙ is)) opened)
    by false e =
        let other = eqb-false n p.0 e in
        stays_open (n, k.part) other (only n k (sym (kept n other) ∙ is))

-- of these tenants those have come in that aren't among the rest
pub record Stands (parts rest : List Numbered) (shard : Shared) : Type 0 where
  pub come : List Numbered
  pub all : parts ≡ come ++ rest
  pub order : shard.order ≡ numbers come
  pub opened : AreOpened shard come
  pub only : (n : ℕ) (k : Kept) → kept_at n shard.tenants ≡ Some k → IsOpened shard (n, k.part)
  pub empty : (n : ℕ) → list_any (eqb n) shard.order ≡ false → rows_in n shard.rows ≡ []

none_some : {A : Type 0} {a : A} → ◌≡◌ {A = Option A} None (Some a) → ⊥
none_some e = cc

pub first : (parts : List Numbered) (order : List ℕ) (tenants : Tenants) (rows : Heap) → order ≡ [] → tenants ≡ [] → ((n : ℕ) → rows_in n rows ≡ []) → Stands parts parts (opening order tenants rows)
first parts order tenants rows o t e = record {
  come = [];
  all = refl;
  order = o;
  opened = tt;
  only = λ n k is. absurd (none_some (sym (ap (kept_at n) t) ∙ is));
  empty = λ n h. e n;
}

pub is_empty : (parts rest after : List Numbered) (p : Numbered) (shard : Shared) → Differ (numbers parts) → rest ≡ p ∷ after → Stands parts rest shard → rows_in p.0 shard.rows ≡ []
is_empty parts rest after p shard d e s =
    let differ : Differ (numbers (s.come ++ p ∷ after)) = subst (λ ps. Differ (numbers ps)) (s.all ∙ ap (λ r. s.come ++ r) e) d in
    s.empty p.0 (subst (λ ns. list_any (eqb p.0) ns ≡ false) (sym s.order) (new_number s.come after p differ))

pub next : (parts rest after : List Numbered) (p : Numbered) (old new : Shared) → Differ (numbers parts) → rest ≡ p ∷ after → Stands parts rest old → new.order ≡ old.order ++ p.0 ∷ []
    → kept_at p.0 new.tenants ≡ Some (record { part = p.1; sessions = replicate (length p.1.sessions) fresh }) → rows_in p.0 new.rows ≡ seeded p.1.seed
    → ((other : ℕ) → (other ≡ p.0 → ⊥) → kept_at other new.tenants ≡ kept_at other old.tenants) → ((other : ℕ) → (other ≡ p.0 → ⊥) → rows_in other new.rows ≡ rows_in other old.rows) → Stands parts after new
next parts rest after p old new d e s order is_kept own kept rows =
    let whole : parts ≡ s.come ++ p ∷ after = s.all ∙ ap (λ r. s.come ++ r) e in
    let differ : Differ (numbers (s.come ++ p ∷ after)) = subst (λ ps. Differ (numbers ps)) whole d in
    let opened : IsOpened new p = record { kept = is_kept; rows = own } in
    record {
      come = s.come ++ p ∷ [];
      all = whole ∙ sym (append_assoc s.come (p ∷ []) after);
      order = order ∙ ap (λ ns. ns ++ p.0 ∷ []) s.order ∙ sym (numbers_more s.come p);
      opened = all_opened old new p opened kept rows s.come after differ s.opened;
      only = only_opened old new p opened kept rows s.only;
      empty = λ n h.
          let parts = not_among old.order n p.0 (subst (λ ns. list_any (eqb n) ns ≡ false) order h) in
          rows n parts.1 ∙ s.empty n parts.0;
    }

-- ---- all have come

pub empty_by : {A : Type 0} (xs : List A) (n : ℕ) → n ≡ length xs → n ≡ 0 → xs ≡ []
empty_by [] n e z = refl
empty_by (x ∷ xs) n e z = absurd (omega (arith, e, z))

fresh_as : (ss : List PartSession) → ◌≡◌ {A = List Session} (map (λ (n : ℕ). record { closed = 0; running = None }) (counts_of ss)) (replicate (length ss) fresh)
fresh_as [] = refl
fresh_as (s ∷ ss) = ap (λ t. fresh ∷ t) (fresh_as ss)

are_kept : (shard : Shared) (ps : List Numbered) → AreOpened shard ps → AreKept (numbers ps) shard.tenants
are_kept shard [] h = tt
are_kept shard (p ∷ ps) h = ((record { part = p.1; sessions = replicate (length p.1.sessions) fresh }, h.0.kept), are_kept shard ps h.1)

sessions_same : (k l : Kept) → Some k ≡ Some l → k.sessions ≡ l.sessions
sessions_same k l e = cc

pub all_come : (parts rest : List Numbered) (shard : Shared) → rest ≡ [] → Stands parts rest shard → (shard.order ≡ numbers parts) × AreOpened shard parts
all_come parts rest shard e s =
    let all : parts ≡ s.come = s.all ∙ ap (λ r. s.come ++ r) e ∙ append-nil s.come in
    (s.order ∙ ap numbers (sym all), subst (AreOpened shard) (sym all) s.opened)

pub sound : (parts rest : List Numbered) (order : List ℕ) (tenants : Tenants) (rows : Heap) → Differ (numbers parts) → rest ≡ [] → Stands parts rest (opening order tenants rows) → IsSound (opening order tenants rows)
sound parts rest order tenants rows d e s =
    let come = all_come parts rest (opening order tenants rows) e s in
    record {
      differ = subst Differ (sym come.0) d;
      kept = subst (λ ns. AreKept ns tenants) (sym come.0) (are_kept (opening order tenants rows) parts come.1);
      legal = λ n k is. record {
        after = first_state (tenant_of k.part);
        legal = refl;
        store = sym (s.only n k is).rows;
        sessions = fresh_as k.part.sessions ∙ sessions_same _ k (sym (s.only n k is).kept ∙ is);
        held = λ id. refl;
      };
    }
