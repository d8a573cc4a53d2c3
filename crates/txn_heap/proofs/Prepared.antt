-- Steps of statics.
use Rattle.std.proofs.Common.{◌≡◌, ℕ, List, [], ◌∷◌, ◌++◌, false, cond, Option, None, Some, nat_eq, replicate, refl, sym, ap, true≢false, ◌∙◌}
use Rattle.std.specs.Map.{lookup}
use Rattle.std.specs.Option.{is_some}
use Rattle.indexmap.specs.IndexMap.{insert_entry}
use Rattle.indexmap.proofs.MapLemmas.{absent_from_lookup, insert_entry-absent}
use Rattle.apex_num.specs.declared.cell.Cell.TheVariants.{Null}
use Rattle.txn_heap.specs.declared.thing.Value.{Value}
use Rattle.txn_heap.specs.declared.thing.Value.TheVariants.{Plain}
use Rattle.txn_heap.specs.Statics.{is_prepared, prepare}

none_of : {A : Type 0} (o : Option A) → is_some o ≡ false → o ≡ None
none_of None h = refl
none_of (Some a) h = absurd (true≢false h)

pub prepared_new : (c count : ℕ) (xs ys after : List (ℕ × List Value)) (values : List Value) → xs ≡ ys → is_prepared c ys ≡ false → values ≡ replicate count (Plain Null)
    → after ≡ insert_entry nat_eq xs c values → after ≡ prepare c count ys
prepared_new c count xs ys after values seen new nulls is =
    let none : lookup (nat_eq c) ys ≡ None = none_of (lookup (nat_eq c) ys) new in
    is ∙ (λ i. insert_entry nat_eq (seen i) c (nulls i)) ∙ insert_entry-absent nat_eq c (replicate count (Plain Null)) ys (absent_from_lookup (nat_eq c) ys none)
    ∙ sym (ap (λ b. cond b ys (ys ++ (c, replicate count (Plain Null)) ∷ [])) new)
