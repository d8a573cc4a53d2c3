-- Merged rows.
use Rattle.std.proofs.Common.{◌≡◌, refl, ap, sym, subst, ◌∙◌, List, [], ◌∷◌, ◌++◌, Option, None, Some}
use Rattle.std.specs.Prelude.{MatchOption, IfOk, Result, Ok, Err}
use Rattle.std.proofs.lemmas.List.{append_assoc, append-nil}
use Rattle.std.specs.List.{AllByRecursion}
use Rattle.std.specs.Ordering.{ordering_reverse}
use Rattle.std.specs.declared.cmp.Ordering.{Ordering}
use Rattle.std.specs.declared.cmp.Ordering.TheVariants.{Less, Equal, Greater}
use Rattle.std.proofs.lemmas.Cmp.{nat_list_cmp_total}
use Rattle.apex_rows.specs.declared.row.Row.{Row}
use Rattle.row_meaning.specs.Cells.{bytes_cmp}
use Rattle.row_meaning.specs.Stores.{put, put_by, put_all}
use Rattle.txn_overlay.specs.Merging.{next_of, onto, merge, head}

-- rows whose Ids are all greater
abbrev pub Above : Row → List Row → Type 0
Above x rows = AllByRecursion (λ (y : Row). bytes_cmp x.id y.id ≡ Less) rows

abbrev pub InOrder : List Row → Type 0
InOrder [] = Unit {0}
InOrder (x ∷ xs) = Above x xs × InOrder xs

flipped : (x y : Row) → bytes_cmp x.id y.id ≡ Less → bytes_cmp y.id x.id ≡ Greater
flipped x y h = nat_list_cmp_total.antisymm y.id x.id ∙ ap ordering_reverse h

below : (x y : Row) → bytes_cmp x.id y.id ≡ Greater → bytes_cmp y.id x.id ≡ Less
below x y h = nat_list_cmp_total.antisymm y.id x.id ∙ ap ordering_reverse h

above_too : (y x : Row) → bytes_cmp y.id x.id ≡ Less → (rows : List Row) → Above x rows → Above y rows
above_too y x h [] a = tt
above_too y x h (r ∷ rows) a = (nat_list_cmp_total.trans y.id x.id r.id h a.0, above_too y x h rows a.1)

-- a row stays in front of those that are put behind it
in_front : (x : Row) (xs ys : List Row) → Above x xs → put_all xs (x ∷ ys) ≡ x ∷ put_all xs ys
in_front x [] ys a = refl
in_front x (y ∷ xs) ys a =
    ap (λ o. put_all xs (put_by o y x ys (put y ys))) (flipped x y a.0) ∙ in_front x xs (put y ys) a.1

merged_none : (xs : List Row) → InOrder xs → put_all xs [] ≡ xs
merged_none [] h = refl
merged_none (x ∷ xs) h = in_front x xs [] h.0 ∙ ap (λ (rows : List Row). x ∷ rows) (merged_none xs h.1)

step : (x : Row) (xs : List Row) → InOrder (x ∷ xs) → ((ys : List Row) → put_all xs ys ≡ merge xs ys) → (ys : List Row) →
    put_all (x ∷ xs) ys ≡ onto x (merge xs) xs ys
step x xs h rest [] = merged_none (x ∷ xs) h
step x xs h rest (y ∷ ys) = by (bytes_cmp x.id y.id) refl (step x xs h rest ys) where
  by : (o : Ordering) → bytes_cmp x.id y.id ≡ o → put_all (x ∷ xs) ys ≡ onto x (merge xs) xs ys →
      put_all xs (put_by o x y ys (put x ys)) ≡ next_of o x y (merge xs (y ∷ ys)) (onto x (merge xs) xs ys) (merge xs ys)
  by Less e more = in_front x xs (y ∷ ys) h.0 ∙ ap (λ (rows : List Row). x ∷ rows) (rest (y ∷ ys))
  by Equal e more = in_front x xs ys h.0 ∙ ap (λ (rows : List Row). x ∷ rows) (rest ys)
  by Greater e more = in_front y xs (put x ys) (above_too y x (below x y e) xs h.0) ∙ ap (λ (rows : List Row). y ∷ rows) more

pub merge_is : (xs ys : List Row) → InOrder xs → put_all xs ys ≡ merge xs ys
merge_is [] ys h = refl
merge_is (x ∷ xs) ys h = step x xs h (λ zs. merge_is xs zs h.1) ys

-- ---- two lists that are taken from the front

abbrev pub Emptied : Option Row → List Row → Type 0
Emptied None rows = rows ≡ []
Emptied (Some x) rows = Unit {0}

-- a row was taken, or there was none
abbrev pub Popped : Option Row → List Row → List Row → Type 0
Popped r before after = MatchOption r ((before ≡ []) × (after ≡ [])) (λ top. before ≡ top ∷ after)

-- so many rows are there, and these are left, each list with its first row taken
pub record Stand (rows : List Row) (one : Option Row) (own : List Row) (other : Option Row) (others whole : List Row) : Type 0 where
  pub left : Emptied one own
  pub right : Emptied other others
  pub is : rows ++ merge (head one ++ own) (head other ++ others) ≡ whole

popped_empty : (r : Option Row) (before after : List Row) → Popped r before after → Emptied r after
popped_empty None before after h = h.1
popped_empty (Some x) before after h = tt

popped_is : (r : Option Row) (before after : List Row) → Popped r before after → head r ++ after ≡ before
popped_is None before after h = h.1 ∙ sym h.0
popped_is (Some x) before after h = sym h

pub stands : (r s : Option Row) (before after others_before others_after : List Row) → Popped r before after → Popped s others_before others_after →
    (own others : List Row) → before ≡ own → others_before ≡ others → Stand [] r after s others_after (merge own others)
stands r s before after others_before others_after h k own others e f = record {
  left = popped_empty r before after h;
  right = popped_empty s others_before others_after k;
  is = ap (λ a. merge a (head s ++ others_after)) (popped_is r before after h ∙ e) ∙ ap (merge own) (popped_is s others_before others_after k ∙ f);
}

pushed : (rows : List Row) (x : Row) (rest : List Row) → (rows ++ x ∷ []) ++ rest ≡ rows ++ (x ∷ rest)
pushed rows x rest = append_assoc rows (x ∷ []) rest

-- what merging the fronts of both comes to
fronts : (o : Ordering) (x y : Row) (own others : List Row) → bytes_cmp x.id y.id ≡ o →
    merge (x ∷ own) (y ∷ others) ≡ next_of o x y (merge own (y ∷ others)) (merge (x ∷ own) others) (merge own others)
fronts o x y own others e = ap (λ o. next_of o x y (merge own (y ∷ others)) (merge (x ∷ own) others) (merge own others)) e

pub less_step : (rows later own after others whole : List Row) (x y : Row) (one other r : Option Row) →
    Stand rows one own other others whole → one ≡ Some x → other ≡ Some y → bytes_cmp x.id y.id ≡ Less → later ≡ rows ++ x ∷ [] → Popped r own after →
    Stand later r after (Some y) others whole
less_step rows later own after others whole x y one other r s e f o l h = record {
  left = popped_empty r own after h;
  right = tt;
  is =
      ap (λ xs. xs ++ merge (head r ++ after) (y ∷ others)) l ∙ pushed rows x (merge (head r ++ after) (y ∷ others))
      ∙ ap (λ a. rows ++ (x ∷ merge a (y ∷ others))) (popped_is r own after h) ∙ ap (λ xs. rows ++ xs) (sym (fronts Less x y own others o))
      ∙ sym (ap (λ a. rows ++ merge (head a ++ own) (head other ++ others)) e ∙ ap (λ b. rows ++ merge (x ∷ own) (head b ++ others)) f) ∙ s.is;
}

pub equal_step : (rows later own after others others_after whole : List Row) (x y : Row) (one other r q : Option Row) →
    Stand rows one own other others whole → one ≡ Some x → other ≡ Some y → bytes_cmp x.id y.id ≡ Equal → later ≡ rows ++ x ∷ [] → Popped r own after → Popped q others others_after →
    Stand later r after q others_after whole
equal_step rows later own after others others_after whole x y one other r q s e f o l h k = record {
  left = popped_empty r own after h;
  right = popped_empty q others others_after k;
  is =
      ap (λ xs. xs ++ merge (head r ++ after) (head q ++ others_after)) l ∙ pushed rows x (merge (head r ++ after) (head q ++ others_after))
      ∙ ap (λ a. rows ++ (x ∷ merge a (head q ++ others_after))) (popped_is r own after h) ∙ ap (λ b. rows ++ (x ∷ merge own b)) (popped_is q others others_after k)
      ∙ ap (λ xs. rows ++ xs) (sym (fronts Equal x y own others o))
      ∙ sym (ap (λ a. rows ++ merge (head a ++ own) (head other ++ others)) e ∙ ap (λ b. rows ++ merge (x ∷ own) (head b ++ others)) f) ∙ s.is;
}

pub greater_step : (rows later own others others_after whole : List Row) (x y : Row) (one other q : Option Row) →
    Stand rows one own other others whole → one ≡ Some x → other ≡ Some y → bytes_cmp x.id y.id ≡ Greater → later ≡ rows ++ y ∷ [] → Popped q others others_after →
    Stand later (Some x) own q others_after whole
greater_step rows later own others others_after whole x y one other q s e f o l k = record {
  left = tt;
  right = popped_empty q others others_after k;
  is =
      ap (λ xs. xs ++ merge (x ∷ own) (head q ++ others_after)) l ∙ pushed rows y (merge (x ∷ own) (head q ++ others_after))
      ∙ ap (λ b. rows ++ (y ∷ merge (x ∷ own) b)) (popped_is q others others_after k) ∙ ap (λ xs. rows ++ xs) (sym (fronts Greater x y own others o))
      ∙ sym (ap (λ a. rows ++ merge (head a ++ own) (head other ++ others)) e ∙ ap (λ b. rows ++ merge (x ∷ own) (head b ++ others)) f) ∙ s.is;
}

-- where one of them is used up, the other one follows
merge_nothing : (xs : List Row) → merge xs [] ≡ xs
merge_nothing [] = refl
merge_nothing (x ∷ xs) = refl

pub own_ends : (rows own others whole : List Row) (y : Row) (one other : Option Row) → Stand rows one own other others whole → one ≡ None → other ≡ Some y → rows ++ (y ∷ others) ≡ whole
own_ends rows own others whole y one other s e f =
    ap (λ a. rows ++ (head a ++ others)) (sym f) ∙ sym (ap (λ xs. rows ++ merge xs (head other ++ others)) (ap (λ a. head a ++ own) e ∙ subst (λ a. Emptied a own) e s.left)) ∙ s.is

pub others_end : (rows own others whole : List Row) (x : Row) (one other : Option Row) → Stand rows one own other others whole → one ≡ Some x → other ≡ None → rows ++ (x ∷ own) ≡ whole
others_end rows own others whole x one other s e f =
    ap (λ a. rows ++ (head a ++ own)) (sym e) ∙ sym (ap (λ xs. rows ++ merge (head one ++ own) xs) (ap (λ a. head a ++ others) f ∙ subst (λ a. Emptied a others) f s.right) ∙ ap (λ xs. rows ++ xs) (merge_nothing (head one ++ own))) ∙ s.is

pub both_end : (rows own others whole : List Row) (one other : Option Row) → Stand rows one own other others whole → one ≡ None → other ≡ None → rows ≡ whole
both_end rows own others whole one other s e f =
    sym (append-nil rows) ∙ sym (ap (λ xs. rows ++ merge xs (head other ++ others)) (ap (λ a. head a ++ own) e ∙ subst (λ a. Emptied a own) e s.left) ∙ ap (λ xs. rows ++ xs) (ap (λ a. head a ++ others) f ∙ subst (λ a. Emptied a others) f s.right)) ∙ s.is

pub rows_same : {E : Type 0} {V : Type 0} (items : V → List Row) (r : Result V E) (a b : List Row) → a ≡ b → IfOk r (λ v. items v ≡ a) → IfOk r (λ v. items v ≡ b)
rows_same items (Ok v) a b e h = h ∙ e
rows_same items (Err x) a b e h = tt
