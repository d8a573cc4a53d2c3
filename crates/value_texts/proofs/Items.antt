-- The items of collections.
use Rattle.std.proofs.Common.{◌≡◌, ℕ, zero, suc, ◌+◌, ◌<◌, ◌≤◌, eqb, Bool, true, false, List, [], ◌∷◌, ◌++◌, length, drop, get_or, codes, Some, refl, sym, ap, ◌∙◌, arith, append_assoc}
use Rattle.std.specs.Map.{keys_of, values_of}
use Rattle.std.proofs.lemmas.List.{drop_all, drop_more}
use Rattle.apex_num.specs.declared.cell.Cell.{Cell}
use Rattle.builtin_table.specs.Shown.{shown}
use Rattle.txn_heap.specs.declared.thing.Thing.{Thing}
use Rattle.txn_heap.specs.declared.thing.Thing.TheVariants as T
use Rattle.txn_heap.specs.declared.thing.Value.{Value}
use Rattle.value_texts.specs.Texts.{texts_by, key_texts, entry_texts, behind_commas}
use Rattle.value_texts.specs.Pieces.{comma, tail_of, closing, item_texts, rest_of}

module _ (text : Value → List ℕ) where
  -- ---- how many there are

  values_counted : (vs : List Value) → length vs ≡ length (texts_by text vs)
  values_counted [] = refl
  values_counted (v ∷ vs) = ap suc (values_counted vs)

  keys_counted : (ks : List Cell) → length ks ≡ length (key_texts ks)
  keys_counted [] = refl
  keys_counted (k ∷ ks) = ap suc (keys_counted ks)

  entries_counted : (es : List (Cell × Value)) → length (keys_of es) ≡ length (entry_texts text es)
  entries_counted [] = refl
  entries_counted (e ∷ es) = ap suc (entries_counted es)

  entries_valued : (es : List (Cell × Value)) → length (values_of es) ≡ length (entry_texts text es)
  entries_valued [] = refl
  entries_valued (e ∷ es) = ap suc (entries_valued es)

  pub list_count : (vs : List Value) (t : Thing) → t ≡ T.List vs → length vs ≡ length (item_texts text t)
  list_count vs t e = values_counted vs ∙ ap (λ x. length (item_texts text x)) (sym e)

  pub set_count : (ks : List Cell) (t : Thing) → t ≡ T.Set ks → length ks ≡ length (item_texts text t)
  set_count ks t e = keys_counted ks ∙ ap (λ x. length (item_texts text x)) (sym e)

  pub map_count : (es : List (Cell × Value)) (t : Thing) → t ≡ T.Map es → length (keys_of es) ≡ length (item_texts text t)
  map_count es t e = entries_counted es ∙ ap (λ x. length (item_texts text x)) (sym e)

  pub map_values : (es : List (Cell × Value)) (t : Thing) → t ≡ T.Map es → length (values_of es) ≡ length (item_texts text t)
  map_values es t e = entries_valued es ∙ ap (λ x. length (item_texts text x)) (sym e)

  -- ---- one of them

  value_at : (vs : List Value) (n : ℕ) (d : Value) → n < length vs → text (get_or vs n d) ≡ get_or (texts_by text vs) n []
  value_at [] n d lt = absurd (omega arith)
  value_at (w ∷ vs) zero d lt = refl
  value_at (w ∷ vs) (suc n) d lt = value_at vs n d (omega arith)

  key_at : (ks : List Cell) (n : ℕ) (d : Cell) → n < length ks → shown (get_or ks n d) ≡ get_or (key_texts ks) n []
  key_at [] n d lt = absurd (omega arith)
  key_at (j ∷ ks) zero d lt = refl
  key_at (j ∷ ks) (suc n) d lt = key_at ks n d (omega arith)

  entry_at : (es : List (Cell × Value)) (n : ℕ) (c : Cell) (d : Value) → n < length (keys_of es) → shown (get_or (keys_of es) n c) ++ codes "=" ++ text (get_or (values_of es) n d) ≡ get_or (entry_texts text es) n []
  entry_at [] n c d lt = absurd (omega arith)
  entry_at (p ∷ es) zero c d lt = refl
  entry_at (p ∷ es) (suc n) c d lt = entry_at es n c d (omega arith)

  pub list_item : (vs : List Value) (t : Thing) (n : ℕ) (d : Value) → t ≡ T.List vs → n < length vs → text (get_or vs n d) ≡ get_or (item_texts text t) n []
  list_item vs t n d e lt = value_at vs n d lt ∙ ap (λ x. get_or (item_texts text x) n []) (sym e)

  pub set_item : (ks : List Cell) (t : Thing) (n : ℕ) (d : Cell) → t ≡ T.Set ks → n < length ks → shown (get_or ks n d) ≡ get_or (item_texts text t) n []
  set_item ks t n d e lt = key_at ks n d lt ∙ ap (λ x. get_or (item_texts text x) n []) (sym e)

  pub map_item : (es : List (Cell × Value)) (t : Thing) (n : ℕ) (c : Cell) (d : Value) → t ≡ T.Map es → n < length (keys_of es) → shown (get_or (keys_of es) n c) ++ codes "=" ++ text (get_or (values_of es) n d) ≡ get_or (item_texts text t) n []
  map_item es t n c d e lt = entry_at es n c d lt ∙ ap (λ x. get_or (item_texts text x) n []) (sym e)

  -- ---- what is to come of them

  tail_none : (first : Bool) (behind : List ℕ) → tail_of first [] ++ behind ≡ behind
  tail_none true behind = refl
  tail_none false behind = refl

  tail_next : (first : Bool) (x : List ℕ) (xs : List (List ℕ)) (behind : List ℕ) → tail_of first (x ∷ xs) ++ behind ≡ comma first ++ (x ++ (behind_commas xs ++ behind))
  tail_next true x xs behind = append_assoc x (behind_commas xs) behind
  tail_next false x xs behind = append_assoc (comma false) (x ++ behind_commas xs) behind ∙ ap (λ y. comma false ++ y) (append_assoc x (behind_commas xs) behind)

  not_first : (n : ℕ) → eqb (n + 1) 0 ≡ false
  not_first n = grind arith

  pub rest_done : (n : ℕ) (t : Thing) → length (item_texts text t) ≤ n → rest_of text n (Some t) ≡ closing t
  rest_done n t le = ap (λ xs. tail_of (eqb n 0) xs ++ closing t) (drop_all n (item_texts text t) le) ∙ tail_none (eqb n 0) (closing t)

  pub rest_next : (n : ℕ) (t : Thing) → n < length (item_texts text t) → rest_of text n (Some t) ≡ comma (eqb n 0) ++ (get_or (item_texts text t) n [] ++ rest_of text (n + 1) (Some t))
  rest_next n t lt =
      ap (λ xs. tail_of (eqb n 0) xs ++ closing t) (drop_more (item_texts text t) n [] lt) ∙ tail_next (eqb n 0) (get_or (item_texts text t) n []) (drop (n + 1) (item_texts text t)) (closing t)
      ∙ ap (λ b. comma (eqb n 0) ++ (get_or (item_texts text t) n [] ++ (tail_of b (drop (n + 1) (item_texts text t)) ++ closing t))) (sym (not_first n))
