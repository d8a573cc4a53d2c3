-- A text that is another one at a greater depth has two brackets for each level.
use Rattle.std.proofs.Common.{◌≡◌, ℕ, zero, suc, ◌*◌, ◌≤◌, ◌⊎◌, inl, inr, ⊎_elim, List, [], ◌∷◌, ◌++◌, length, codes, Option, None, Some, refl, ap, ◌∙◌, arith, length-append}
use Rattle.std.specs.Prelude.{⊤, slice_get}
use Rattle.apex_num.specs.declared.cell.Cell.{Cell}
use Rattle.apex_schema.specs.declared.schema.Schema.{Schema}
use Rattle.builtin_table.specs.Shown.{shown}
use Rattle.txn_heap.specs.declared.thing.Thing.{Thing}
use Rattle.txn_heap.specs.declared.thing.Thing.TheVariants as T
use Rattle.txn_heap.specs.declared.thing.Value.{Value}
use Rattle.txn_heap.specs.declared.thing.Value.TheVariants.{Plain, Object}
use Rattle.value_texts.specs.Texts.{listed, behind_commas, texts_by, entry_texts, thing_text, text_within}

-- a text is another one, or the other one is long
abbrev pub Same : ℕ → List ℕ → List ℕ → Type 0
Same k x y = (x ≡ y) ⊎ (2 * k ≤ length y)

abbrev pub Each : ℕ → List (List ℕ) → List (List ℕ) → Type 0
Each k [] [] = ⊤
Each k [] (y ∷ ys) = ⊥
Each k (x ∷ xs) [] = ⊥
Each k (x ∷ xs) (y ∷ ys) = Same k x y × Each k xs ys

behind_same : (k : ℕ) (xs ys : List (List ℕ)) → Each k xs ys → Same k (behind_commas xs) (behind_commas ys)
behind_same k [] [] h = inl refl
behind_same k [] (y ∷ ys) h = absurd h
behind_same k (x ∷ xs) [] h = absurd h
behind_same k (x ∷ xs) (y ∷ ys) (inr long, h) = let l = length-append (codes ", " ++ y) (behind_commas ys) in let m = length-append (codes ", ") y in inr (omega arith)
behind_same k (x ∷ xs) (y ∷ ys) (inl e, h) =
    ⊎_elim (λ f. inl (ap (λ z. codes ", " ++ z ++ behind_commas xs) e ∙ ap (λ z. codes ", " ++ y ++ z) f))
    (λ long. let l = length-append (codes ", " ++ y) (behind_commas ys) in let m = length-append (codes ", ") y in inr (omega arith)) (behind_same k xs ys h)

listed_same : (k : ℕ) (xs ys : List (List ℕ)) → Each k xs ys → Same k (listed xs) (listed ys)
listed_same k [] [] h = inl refl
listed_same k [] (y ∷ ys) h = absurd h
listed_same k (x ∷ xs) [] h = absurd h
listed_same k (x ∷ xs) (y ∷ ys) (inr long, h) = let m = length-append y (behind_commas ys) in inr (omega arith)
listed_same k (x ∷ xs) (y ∷ ys) (inl e, h) =
    ⊎_elim (λ f. inl (ap (λ z. z ++ behind_commas xs) e ∙ ap (λ z. y ++ z) f)) (λ long. let m = length-append y (behind_commas ys) in inr (omega arith)) (behind_same k xs ys h)

-- brackets make it longer
in_brackets : (k : ℕ) (a b x y : List ℕ) → length a ≡ 1 → length b ≡ 1 → Same k x y → Same (suc k) (a ++ x ++ b) (a ++ y ++ b)
in_brackets k a b x y la lb (inl e) = inl (ap (λ z. a ++ z ++ b) e)
in_brackets k a b x y la lb (inr long) = let l = length-append (a ++ y) b in let m = length-append a y in inr (omega arith)

module _ (schema : Schema) (classes : List (List ℕ)) (heap : List Thing) where
  abbrev pub text : ℕ → Value → List ℕ
  text n = text_within n schema classes heap

  values_each : (k j : ℕ) → ((v : Value) → Same k (text j v) (text k v)) → (vs : List Value) → Each k (texts_by (text j) vs) (texts_by (text k) vs)
  values_each k j h [] = tt
  values_each k j h (v ∷ vs) = (h v, values_each k j h vs)

  entry_same : (k : ℕ) (c : Cell) (x y : List ℕ) → Same k x y → Same k (shown c ++ codes "=" ++ x) (shown c ++ codes "=" ++ y)
  entry_same k c x y (inl e) = inl (ap (λ z. shown c ++ codes "=" ++ z) e)
  entry_same k c x y (inr long) = let l = length-append (shown c ++ codes "=") y in inr (omega arith)

  entries_each : (k j : ℕ) → ((v : Value) → Same k (text j v) (text k v)) → (es : List (Cell × Value)) → Each k (entry_texts (text j) es) (entry_texts (text k) es)
  entries_each k j h [] = tt
  entries_each k j h (e ∷ es) = (entry_same k e.0 (text j e.1) (text k e.1) (h e.1), entries_each k j h es)

  thing_same : (k j : ℕ) → ((v : Value) → Same k (text j v) (text k v)) → (o : Option Thing) → Same (suc k) (thing_text (text j) schema classes o) (thing_text (text k) schema classes o)
  thing_same k j h None = inl refl
  thing_same k j h (Some (T.Record r)) = inl refl
  thing_same k j h (Some (T.Instance i)) = inl refl
  thing_same k j h (Some (T.Exception e)) = inl refl
  thing_same k j h (Some (T.Guard g)) = inl refl
  thing_same k j h (Some (T.Set ks)) = inl refl
  thing_same k j h (Some (T.List vs)) = in_brackets k (codes "(") (codes ")") _ _ refl refl (listed_same k _ _ (values_each k j h vs))
  thing_same k j h (Some (T.Map es)) = in_brackets k (codes "{") (codes "}") _ _ refl refl (listed_same k _ _ (entries_each k j h es))

  pub deeper : (n m : ℕ) (v : Value) → n ≤ m → Same n (text m v) (text n v)
  deeper zero m v le = inr (omega arith)
  deeper (suc k) zero v le = absurd (omega arith)
  deeper (suc k) (suc j) (Plain c) le = inl refl
  deeper (suc k) (suc j) (Object r) le = thing_same k j (λ v. deeper k j v (omega arith)) (slice_get heap r.place)
