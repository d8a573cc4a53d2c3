-- Steps of a write of a static.
use Rattle.std.proofs.Common.{◌≡◌, ℕ, zero, suc, ◌+◌, List, [], ◌∷◌, Bool, true, false, cond, not, None, Some, nat_eq, length, slice_get, set, refl, sym, ap, ◌∙◌, arith}
use Rattle.std.specs.List.{position_or_len}
use Rattle.std.specs.Map.{keys_of, values_of}
use Rattle.indexmap.specs.IndexMap.{set_value_at}
use Rattle.indexmap.proofs.MapLemmas.{Found-position, Missing-position}
use Rattle.std.specs.Prelude.{position}
use Rattle.txn_heap.specs.declared.thing.Value.{Value}
use Rattle.txn_heap.specs.Statics.{with_static, with_static_at}

pub set_there : (i n : ℕ) (v : Value) (es : List (ℕ × List Value)) (values : List Value) → Some values ≡ slice_get (values_of es) i → set_value_at es i (set values n v) ≡ with_static_at i n v es
set_there i n v [] values h = refl
set_there zero n v (e ∷ es) values h = let is : values ≡ e.1 = cc in ap (λ l. (e.0, set l n v) ∷ es) is
set_there (suc i) n v (e ∷ es) values h = ap (λ l. e ∷ l) (set_there i n v es values h)

pub none_there : (i n : ℕ) (v : Value) (es : List (ℕ × List Value)) → None ≡ slice_get (values_of es) i → es ≡ with_static_at i n v es
none_there i n v [] h = refl
none_there zero n v (e ∷ es) h = cc
none_there (suc i) n v (e ∷ es) h = ap (λ l. e ∷ l) (none_there i n v es h)

past_all : (n : ℕ) (v : Value) (es : List (ℕ × List Value)) → with_static_at (length es) n v es ≡ es
past_all n v [] = refl
past_all n v (e ∷ es) = ap (λ l. e ∷ l) (past_all n v es)

by_index : (c n : ℕ) (v : Value) (es : List (ℕ × List Value)) → with_static_at (position_or_len (nat_eq c) (keys_of es)) n v es ≡ with_static c n v es
by_index c n v [] = refl
by_index c n v (e ∷ es) = go (nat_eq c e.0) (by_index c n v es)
  where
    next : (p : ℕ) → 1 + p ≡ suc p
    next p = omega arith

    go : (b : Bool) → with_static_at (position_or_len (nat_eq c) (keys_of es)) n v es ≡ with_static c n v es → with_static_at (cond (not b) (1 + position_or_len (nat_eq c) (keys_of es)) 0) n v (e ∷ es) ≡ cond b ((e.0, set e.1 n v) ∷ es) (e ∷ with_static c n v es)
    go true h = refl
    go false h = ap (λ k. with_static_at k n v (e ∷ es)) (next (position_or_len (nat_eq c) (keys_of es))) ∙ ap (λ l. e ∷ l) h

pub set_found : (c i n : ℕ) (v : Value) (xs ys after : List (ℕ × List Value)) → xs ≡ ys → position (nat_eq c) (keys_of xs) ≡ Some i → after ≡ with_static_at i n v xs → after ≡ with_static c n v ys
set_found c i n v xs ys after seen at is = is ∙ ap (λ k. with_static_at k n v xs) (sym (Found-position (nat_eq c) xs i at).or_len) ∙ by_index c n v xs ∙ ap (with_static c n v) seen

pub set_missing : (c n : ℕ) (v : Value) (xs ys : List (ℕ × List Value)) → xs ≡ ys → position (nat_eq c) (keys_of xs) ≡ None → ys ≡ with_static c n v ys
set_missing c n v xs ys seen at =
    sym (ap (with_static c n v) (sym seen) ∙ sym (by_index c n v xs) ∙ ap (λ k. with_static_at k n v xs) (Missing-position (nat_eq c) xs at).or_len ∙ past_all n v xs ∙ seen)
