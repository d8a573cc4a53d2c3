-- Stores as maps from Ids to rows: what stands under an Id after each step, and that this is all there is to a store.
use Rattle.std.proofs.Common.{◌≡◌, refl, ap, sym, subst, ◌∙◌, ℕ, Bool, true, false, cond, List, [], ◌∷◌, Option, None, Some}
use Rattle.std.specs.Prelude.{bytes_eq, filter}
use Rattle.std.specs.List.{AllByRecursion}
use Rattle.std.specs.Ordering.{is_eq, ordering_reverse}
use Rattle.std.specs.declared.cmp.Ordering.{Ordering}
use Rattle.std.specs.declared.cmp.Ordering.TheVariants.{Less, Equal, Greater}
use Rattle.std.specs.FinMap.{slice_cmp-IsAntisymmetric, nat_cmp-IsAntisymmetric}
use Rattle.std.proofs.lemmas.Cmp.{nat_list_cmp_total}
use Rattle.std.proofs.lemmas.Map.Text.{is_eq-slice_cmp}
use Rattle.std.proofs.lemmas.Slice.Eq.{bytes_eq-Decides}
use Rattle.apex_rows.specs.declared.row.Row.{Row}
use Rattle.row_meaning.specs.Cells.{bytes_cmp}
use Rattle.row_meaning.specs.Stores.{Rising, find, put, put_by, put_all, has_id, without}

pub clash : true ≡ false → ⊥
clash e = absurd (cc)

pub none_is : {A : Type 0} (a : A) → None ≡ Some a → ⊥
none_is a e = absurd (cc)

pub some_same : {A : Type 0} (a b : A) → Some a ≡ Some b → a ≡ b
some_same a b e = cc

-- ---- Ids

pub same_id : (a b : List ℕ) → bytes_eq a b ≡ true → a ≡ b
same_id a b e = (bytes_eq-Decides a b).0 e

pub itself : (a : List ℕ) → bytes_eq a a ≡ true
itself a = (bytes_eq-Decides a a).1 refl

pub less_apart : (a b : List ℕ) → bytes_cmp a b ≡ Less → bytes_eq a b ≡ false
less_apart a b e = sym (is_eq-slice_cmp a b) ∙ ap is_eq e

pub flipped : (a b : List ℕ) → bytes_eq a b ≡ false → bytes_eq b a ≡ false
flipped a b h = by (bytes_eq b a) refl where
  by : (c : Bool) → bytes_eq b a ≡ c → c ≡ false
  by true e = absurd (clash (sym (itself a) ∙ ap (bytes_eq a) (sym (same_id b a e)) ∙ h))
  by false e = refl

equal_id : (a b : List ℕ) → bytes_cmp a b ≡ Equal → a ≡ b
equal_id a b e = slice_cmp-IsAntisymmetric nat_cmp-IsAntisymmetric a b e

turned : (a b : List ℕ) (o : Ordering) → bytes_cmp a b ≡ o → bytes_cmp b a ≡ ordering_reverse o
turned a b o h = nat_list_cmp_total.antisymm b a ∙ ap ordering_reverse h

-- ---- options

abbrev pub or_else : {A : Type 0} → Option A → Option A → Option A
or_else (Some a) later = Some a
or_else None later = later

abbrev pub kept : (Row → Bool) → Option Row → Option Row
kept test None = None
kept test (Some r) = cond (test r) (Some r) None

pub or_none : {A : Type 0} (o : Option A) → or_else o None ≡ o
or_none (Some a) = refl
or_none None = refl

-- ---- lists of rows in the order of their Ids

abbrev pub Above : List ℕ → List Row → Type 0
Above id rows = AllByRecursion (λ (r : Row). bytes_cmp id r.id ≡ Less) rows

abbrev pub InOrder : List Row → Type 0
InOrder [] = Unit {0}
InOrder (r ∷ rows) = Above r.id rows × InOrder rows

above_too : (a b : List ℕ) → bytes_cmp a b ≡ Less → (rows : List Row) → Above b rows → Above a rows
above_too a b h [] t = tt
above_too a b h (r ∷ rows) t = (nat_list_cmp_total.trans a b r.id h t.0, above_too a b h rows t.1)

pub in_order : (rows : List Row) → Rising rows → InOrder rows
in_order [] h = tt
in_order (r ∷ []) h = (tt, tt)
in_order (r ∷ s ∷ rows) h = let more = in_order (s ∷ rows) h.1 in ((h.0, above_too r.id s.id h.0 rows more.0), more)

-- ---- what stands under an Id

pub nothing_below : (id : List ℕ) (rows : List Row) → Above id rows → find rows id ≡ None
nothing_below id [] h = refl
nothing_below id (r ∷ rows) h = ap (λ b. cond b (Some r) (find rows id)) (flipped id r.id (less_apart id r.id h.0)) ∙ nothing_below id rows h.1

-- no Id stands twice
abbrev pub Lone : List Row → Type 0
Lone [] = Unit {0}
Lone (r ∷ rows) = (find rows r.id ≡ None) × Lone rows

pub lone : (rows : List Row) → InOrder rows → Lone rows
lone [] h = tt
lone (r ∷ rows) h = (nothing_below r.id rows h.0, lone rows h.1)

two_ways : (b d : Bool) (p r : Row) (o : Option Row) → ((b ≡ true) → (d ≡ true) → ⊥) → cond d (Some r) (cond b (Some p) o) ≡ cond b (Some p) (cond d (Some r) o)
two_ways true true p r o h = absurd (h refl refl)
two_ways true false p r o h = refl
two_ways false true p r o h = refl
two_ways false false p r o h = refl

once : (b : Bool) (p r : Row) (o : Option Row) → cond b (Some p) o ≡ cond b (Some p) (cond b (Some r) o)
once true p r o = refl
once false p r o = refl

pub find_put : (p : Row) (rows : List Row) (id : List ℕ) → find (put p rows) id ≡ cond (bytes_eq p.id id) (Some p) (find rows id)
find_put p [] id = refl
find_put p (r ∷ rows) id = by (bytes_cmp p.id r.id) refl (find_put p rows id) where
  apart : bytes_cmp p.id r.id ≡ Greater → (bytes_eq p.id id ≡ true) → (bytes_eq r.id id ≡ true) → ⊥
  apart g a b = clash (sym (ap is_eq (sym (turned p.id r.id Greater g) ∙ ap (bytes_cmp r.id) (same_id p.id id a ∙ sym (same_id r.id id b))) ∙ is_eq-slice_cmp r.id r.id ∙ itself r.id))

  by : (o : Ordering) → bytes_cmp p.id r.id ≡ o → find (put p rows) id ≡ cond (bytes_eq p.id id) (Some p) (find rows id) →
      find (put_by o p r rows (put p rows)) id ≡ cond (bytes_eq p.id id) (Some p) (cond (bytes_eq r.id id) (Some r) (find rows id))
  by Less e more = refl
  by Equal e more = once (bytes_eq p.id id) p r (find rows id) ∙ ap (λ i. cond (bytes_eq p.id id) (Some p) (cond (bytes_eq i id) (Some r) (find rows id))) (equal_id p.id r.id e)
  by Greater e more = ap (λ o. cond (bytes_eq r.id id) (Some r) o) more ∙ two_ways (bytes_eq p.id id) (bytes_eq r.id id) p r (find rows id) (apart e)

pub find_put_all : (ps rows : List Row) (id : List ℕ) → Lone ps → find (put_all ps rows) id ≡ or_else (find ps id) (find rows id)
find_put_all [] rows id h = refl
find_put_all (p ∷ ps) rows id h = find_put_all ps (put p rows) id h.1 ∙ ap (or_else (find ps id)) (find_put p rows id) ∙ by (bytes_eq p.id id) refl where
  by : (b : Bool) → bytes_eq p.id id ≡ b → or_else (find ps id) (cond b (Some p) (find rows id)) ≡ or_else (cond b (Some p) (find ps id)) (find rows id)
  by true e = ap (λ o. or_else o (Some p)) (ap (find ps) (sym (same_id p.id id e)) ∙ h.0)
  by false e = refl

pub none_left : (test : Row → Bool) (rows : List Row) (id : List ℕ) → find rows id ≡ None → find (filter test rows) id ≡ None
none_left test [] id h = refl
none_left test (r ∷ rows) id h = by (bytes_eq r.id id) refl h (none_left test rows id) where
  both : (c : Bool) → bytes_eq r.id id ≡ false → find (filter test rows) id ≡ None → find (cond c (r ∷ filter test rows) (filter test rows)) id ≡ None
  both true e more = ap (λ b. cond b (Some r) (find (filter test rows) id)) e ∙ more
  both false e more = more

  by : (b : Bool) → bytes_eq r.id id ≡ b → cond b (Some r) (find rows id) ≡ None → (find rows id ≡ None → find (filter test rows) id ≡ None) → find (filter test (r ∷ rows)) id ≡ None
  by true e k more = absurd (none_is r (sym k))
  by false e k more = both (test r) e (more k)

pub find_filter : (test : Row → Bool) (rows : List Row) (id : List ℕ) → Lone rows → find (filter test rows) id ≡ kept test (find rows id)
find_filter test [] id h = refl
find_filter test (r ∷ rows) id h = by (bytes_eq r.id id) refl (find_filter test rows id h.1) where
  here : (c : Bool) → bytes_eq r.id id ≡ true → test r ≡ c → find (filter test rows) id ≡ None → find (cond c (r ∷ filter test rows) (filter test rows)) id ≡ cond c (Some r) None
  here true e t more = ap (λ b. cond b (Some r) (find (filter test rows) id)) e
  here false e t more = more

  there : (c : Bool) → bytes_eq r.id id ≡ false → find (filter test rows) id ≡ kept test (find rows id) → find (cond c (r ∷ filter test rows) (filter test rows)) id ≡ kept test (find rows id)
  there true e more = ap (λ b. cond b (Some r) (find (filter test rows) id)) e ∙ more
  there false e more = more

  by : (b : Bool) → bytes_eq r.id id ≡ b → find (filter test rows) id ≡ kept test (find rows id) → find (filter test (r ∷ rows)) id ≡ kept test (cond b (Some r) (find rows id))
  by true e more = here (test r) e refl (none_left test rows id (ap (find rows) (sym (same_id r.id id e)) ∙ h.0))
  by false e more = there (test r) e more

pub find_without : (ids : List (List ℕ)) (rows : List Row) (id : List ℕ) → find (without ids rows) id ≡ cond (has_id ids id) None (find rows id)
find_without ids [] id = by (has_id ids id) where
  by : (b : Bool) → find [] id ≡ cond b None (find [] id)
  by true = refl
  by false = refl
find_without ids (r ∷ rows) id = by (bytes_eq r.id id) refl (find_without ids rows id) where
  here : (c : Bool) → bytes_eq r.id id ≡ true → has_id ids id ≡ c → find (without ids rows) id ≡ cond (has_id ids id) None (find rows id) →
      find (cond (cond c false true) (r ∷ without ids rows) (without ids rows)) id ≡ cond c None (Some r)
  here true e t more = more ∙ ap (λ b. cond b None (find rows id)) t
  here false e t more = ap (λ b. cond b (Some r) (find (without ids rows) id)) e

  there : (c : Bool) → bytes_eq r.id id ≡ false → find (without ids rows) id ≡ cond (has_id ids id) None (find rows id) →
      find (cond c (r ∷ without ids rows) (without ids rows)) id ≡ cond (has_id ids id) None (find rows id)
  there true e more = ap (λ b. cond b (Some r) (find (without ids rows) id)) e ∙ more
  there false e more = more

  by : (b : Bool) → bytes_eq r.id id ≡ b → find (without ids rows) id ≡ cond (has_id ids id) None (find rows id) →
      find (without ids (r ∷ rows)) id ≡ cond (has_id ids id) None (cond b (Some r) (find rows id))
  by true e more = ap (λ i. find (cond (cond (has_id ids i) false true) (r ∷ without ids rows) (without ids rows)) id) (same_id r.id id e) ∙ here (has_id ids id) e refl more
  by false e more = there (cond (has_id ids r.id) false true) e more

-- ---- the order stays

above_put : (id : List ℕ) (p : Row) (rows : List Row) → bytes_cmp id p.id ≡ Less → Above id rows → Above id (put p rows)
above_put id p [] h a = (h, tt)
above_put id p (r ∷ rows) h a = by (bytes_cmp p.id r.id) (above_put id p rows h a.1) where
  by : (o : Ordering) → Above id (put p rows) → Above id (put_by o p r rows (put p rows))
  by Less more = (h, a)
  by Equal more = (h, a.1)
  by Greater more = (a.0, more)

pub order_put : (p : Row) (rows : List Row) → InOrder rows → InOrder (put p rows)
order_put p [] h = (tt, tt)
order_put p (r ∷ rows) h = by (bytes_cmp p.id r.id) refl (order_put p rows h.1) where
  by : (o : Ordering) → bytes_cmp p.id r.id ≡ o → InOrder (put p rows) → InOrder (put_by o p r rows (put p rows))
  by Less e more = ((e, above_too p.id r.id e rows h.0), h)
  by Equal e more = (subst (λ i. Above i rows) (sym (equal_id p.id r.id e)) h.0, h.1)
  by Greater e more = (above_put r.id p rows (turned p.id r.id Greater e) h.0, more)

pub order_put_all : (ps rows : List Row) → InOrder rows → InOrder (put_all ps rows)
order_put_all [] rows h = h
order_put_all (p ∷ ps) rows h = order_put_all ps (put p rows) (order_put p rows h)

above_filter : (id : List ℕ) (test : Row → Bool) (rows : List Row) → Above id rows → Above id (filter test rows)
above_filter id test [] h = tt
above_filter id test (r ∷ rows) h = by (test r) (above_filter id test rows h.1) where
  by : (b : Bool) → Above id (filter test rows) → Above id (cond b (r ∷ filter test rows) (filter test rows))
  by true more = (h.0, more)
  by false more = more

pub order_filter : (test : Row → Bool) (rows : List Row) → InOrder rows → InOrder (filter test rows)
order_filter test [] h = tt
order_filter test (r ∷ rows) h = by (test r) (order_filter test rows h.1) where
  by : (b : Bool) → InOrder (filter test rows) → InOrder (cond b (r ∷ filter test rows) (filter test rows))
  by true more = (above_filter r.id test rows h.0, more)
  by false more = more

-- ---- two such lists with the same under each Id are the same

found_first : (r : Row) (rows : List Row) → find (r ∷ rows) r.id ≡ Some r
found_first r rows = ap (λ b. cond b (Some r) (find rows r.id)) (itself r.id)

not_in : (id : List ℕ) (r : Row) (rows : List Row) → bytes_cmp id r.id ≡ Less → Above r.id rows → find (r ∷ rows) id ≡ None
not_in id r rows h a = nothing_below id (r ∷ rows) (h, above_too id r.id h rows a)

pub same_map : (xs ys : List Row) → InOrder xs → InOrder ys → ((id : List ℕ) → find xs id ≡ find ys id) → xs ≡ ys
same_map [] [] h k e = refl
same_map [] (y ∷ ys) h k e = absurd (none_is y (e y.id ∙ found_first y ys))
same_map (x ∷ xs) [] h k e = absurd (none_is x (sym (e x.id) ∙ found_first x xs))
same_map (x ∷ xs) (y ∷ ys) h k e = by (bytes_cmp x.id y.id) refl (same_map xs ys h.1 k.1) where
  first : x.id ≡ y.id → x ≡ y
  first s = some_same x y (sym (found_first x xs) ∙ e x.id ∙ ap (find (y ∷ ys)) s ∙ found_first y ys)

  rest : x.id ≡ y.id → (id : List ℕ) → find xs id ≡ find ys id
  rest s id = in_both (bytes_eq x.id id) refl where
    in_both : (b : Bool) → bytes_eq x.id id ≡ b → find xs id ≡ find ys id
    in_both true t = ap (find xs) (sym (same_id x.id id t)) ∙ nothing_below x.id xs h.0 ∙ sym (ap (find ys) (sym (same_id x.id id t) ∙ s) ∙ nothing_below y.id ys k.0)
    in_both false t =
        ap (λ b. cond b (Some x) (find xs id)) (sym t) ∙ e id ∙ ap (λ b. cond b (Some y) (find ys id)) (ap (λ i. bytes_eq i id) (sym s) ∙ t)

  by : (o : Ordering) → bytes_cmp x.id y.id ≡ o → (((id : List ℕ) → find xs id ≡ find ys id) → xs ≡ ys) → (x ∷ xs) ≡ (y ∷ ys)
  by Less o more = absurd (none_is x (sym (not_in x.id y ys o k.0) ∙ sym (e x.id) ∙ found_first x xs))
  by Greater o more = absurd (none_is y (sym (not_in y.id x xs (turned x.id y.id Greater o) h.0) ∙ e y.id ∙ found_first y ys))
  by Equal o more =
      ap (λ (r : Row). r ∷ xs) (first (equal_id x.id y.id o))
      ∙ ap (λ (rows : List Row). y ∷ rows) (more (rest (equal_id x.id y.id o)))
