-- Tenants by their numbers.
use Rattle.std.proofs.Common.{◌≡◌, refl, ap, sym, subst, ◌∙◌, ℕ, Bool, true, false, cond, List, [], ◌∷◌, Option, None, Some}
use Rattle.std.specs.FinMap.{nat_cmp-IsAntisymmetric}
use Rattle.std.specs.declared.cmp.Ordering.{Ordering}
use Rattle.std.specs.declared.cmp.Ordering.TheVariants.{Less, Equal, Greater}
use Rattle.std.specs.Ordering.{nat_cmp, is_eq}
use Rattle.std.specs.BTreeMap.{is_at}
use Rattle.apex_rows.specs.declared.row.Row.{Row}
use Rattle.apex_rows.specs.declared.row.Writes.{Writes}
use Rattle.row_meaning.specs.Stores.{put_all, taken, without}
use Rattle.record_store.specs.Places.{Places, HasRoom, rows_of}
use Rattle.record_store.specs.Heaps.{or_nothing}

without_of_none : (ids : List (List ℕ)) → without ids [] ≡ []
without_of_none ids = refl

-- where nothing has room, nothing is written
nothing_put : (puts : List Row) → HasRoom puts [] → put_all puts [] ≡ []
nothing_put [] h = refl
nothing_put (r ∷ rows) h = absurd (cc)

pub nothing_taken : (writes : Writes) (places : Places) → places ≡ [] → HasRoom writes.puts places → rows_of places ≡ taken writes (rows_of places)
nothing_taken writes places e h =
    ap rows_of e ∙ sym (ap (without writes.drops) (nothing_put writes.puts (subst (HasRoom writes.puts) e h))) ∙ sym (ap (λ ps. taken writes (rows_of ps)) e)

-- a tenant that comes in has no places, and others have theirs
pub comes_in : (tenant q : ℕ) (new : Places) (before after was : Option Places) → new ≡ [] → after ≡ cond (is_at (nat_cmp tenant) q) (Some new) before → was ≡ None → (is_at (nat_cmp tenant) q ≡ true → before ≡ was) →
    or_nothing after ≡ or_nothing before
comes_in tenant q new before after was empty e none same = ap or_nothing e ∙ by (is_at (nat_cmp tenant) q) refl where
  by : (b : Bool) → is_at (nat_cmp tenant) q ≡ b → or_nothing (cond b (Some new) before) ≡ or_nothing before
  by true k = empty ∙ sym (ap or_nothing (same k ∙ none))
  by false k = refl

pub same_tenant : (a b : ℕ) → is_eq (nat_cmp a b) ≡ true → a ≡ b
same_tenant a b h = by (nat_cmp a b) refl h where
  by : (o : Ordering) → nat_cmp a b ≡ o → is_eq o ≡ true → a ≡ b
  by Equal e k = nat_cmp-IsAntisymmetric a b e
  by Less e k = absurd (cc)
  by Greater e k = absurd (cc)
