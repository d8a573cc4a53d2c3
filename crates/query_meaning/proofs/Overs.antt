-- The rows over rows: behind the questions for its parents, a query follows its paths as on the whole store.
use Rattle.std.proofs.Common.{◌≡◌, refl, ap, sym, ◌∙◌, ℕ, Bool, true, false, cond, List, [], ◌∷◌, ◌++◌, Option, None, Some}
use Rattle.std.specs.Prelude.{◌||◌, eqb}
use Rattle.std.proofs.lemmas.Bool.{eqb-true}
use Rattle.apex_num.specs.declared.cell.Cell.{Cell}
use Rattle.apex_num.specs.declared.cell.Cell.TheVariants.{Id}
use Rattle.apex_schema.specs.declared.schema.Schema.{Schema}
use Rattle.apex_rows.specs.declared.query.Path.{Path}
use Rattle.apex_rows.specs.declared.row.Row.{Row}
use Rattle.row_meaning.specs.Conds.{cell_of}
use Rattle.row_meaning.specs.Queries.{object_leads, of_this, named, parent, then_from, follow, path_value}
use Rattle.row_meaning.specs.Stores.{find, has_id}
use Rattle.std.specs.Prelude.{slice_get}
use Rattle.save_meaning.specs.Drafts.{id_in}
use Rattle.query_meaning.specs.Parents.{then_object, object_after, named_over}
use Rattle.query_meaning.proofs.Maps.{clash, none_is, some_same, itself}
use Rattle.query_meaning.proofs.Seen.{Each}

-- ---- what a store has that another one has, too

abbrev pub Below : List Row → List Row → Type 0
Below known store = (i : List ℕ) (r : Row) → find known i ≡ Some r → find store i ≡ Some r

lift : (lead : Option ℕ) (a b : Option Row) (x : Row) → ((r : Row) → a ≡ Some r → b ≡ Some r) → of_this lead a ≡ Some x → of_this lead b ≡ Some x
lift (Some o) (Some y) b x h e = ap (of_this (Some o)) (h y refl) ∙ e
lift (Some o) None b x h e = absurd (none_is x e)
lift None (Some y) b x h e = absurd (none_is x e)
lift None None b x h e = absurd (none_is x e)

pub between : (a b c : Option Row) → ((r : Row) → a ≡ Some r → b ≡ Some r) → ((r : Row) → b ≡ Some r → c ≡ Some r) → a ≡ c → b ≡ c
between a None None h k e = refl
between a (Some y) None h k e = absurd (none_is y (k y refl))
between (Some x) b (Some z) h k e = h x refl ∙ e
between None b (Some z) h k e = absurd (none_is z e)

module _ (schema : Schema) where
  module _ (known store : List Row) (below : Below known store) where
    parent_below : (row : Row) (field : ℕ) (x : Row) → parent schema known row field ≡ Some x → parent schema store row field ≡ Some x
    parent_below row field x e = by (object_leads (slice_get schema.objects row.object) field) (cell_of row field) e where
      none : (lead : Option ℕ) → of_this lead None ≡ Some x → ⊥
      none None e = none_is x e
      none (Some o) e = none_is x e

      by : (lead : Option ℕ) (c : Cell) → of_this lead (named known c) ≡ Some x → of_this lead (named store c) ≡ Some x
      by lead (Id i) e = lift lead (find known i) (find store i) x (below i) e
      by lead _ e = e

    pub follow_below : (fs : List ℕ) (row x : Row) → follow schema known fs row ≡ Some x → follow schema store fs row ≡ Some x
    follow_below [] row x e = e
    follow_below (f ∷ fs) row x e = by (parent schema known row f) refl e (follow_below fs) where
      by : (o : Option Row) → parent schema known row f ≡ o → then_from (follow schema known fs) o ≡ Some x →
          ((row x : Row) → follow schema known fs row ≡ Some x → follow schema store fs row ≡ Some x) → then_from (follow schema store fs) (parent schema store row f) ≡ Some x
      by None p h more = absurd (none_is x h)
      by (Some y) p h more = ap (then_from (follow schema store fs)) (parent_below row f y p) ∙ more y x h

  -- ---- one field more

  then_all : (store : List Row) (o : Option Row) → then_from (follow schema store []) o ≡ o
  then_all store None = refl
  then_all store (Some r) = refl

  pub follow_last : (store : List Row) (fs : List ℕ) (f : ℕ) (row : Row) → follow schema store (fs ++ f ∷ []) row ≡ then_from (λ r. parent schema store r f) (follow schema store fs row)
  follow_last store [] f row = then_all store (parent schema store row f)
  follow_last store (g ∷ fs) f row = by (parent schema store row g) (follow_last store fs f) where
    by : (o : Option Row) → ((r : Row) → follow schema store (fs ++ f ∷ []) r ≡ then_from (λ r. parent schema store r f) (follow schema store fs r)) →
        then_from (follow schema store (fs ++ f ∷ [])) o ≡ then_from (λ r. parent schema store r f) (then_from (follow schema store fs) o)
    by None more = refl
    by (Some r) more = more r

  pub after_last : (object : ℕ) (fs : List ℕ) (f : ℕ) → object_after schema object (fs ++ f ∷ []) ≡ then_object (object_after schema object fs) (λ o. object_leads (slice_get schema.objects o) f)
  after_last object [] f = by (object_leads (slice_get schema.objects object) f) where
    by : (o : Option ℕ) → then_object o (λ o. Some o) ≡ o
    by None = refl
    by (Some o) = refl
  after_last object (g ∷ fs) f = by (object_leads (slice_get schema.objects object) g) (λ o. after_last o fs f) where
    by : (o : Option ℕ) → ((o : ℕ) → object_after schema o (fs ++ f ∷ []) ≡ then_object (object_after schema o fs) (λ o. object_leads (slice_get schema.objects o) f)) →
        then_object o (λ o. object_after schema o (fs ++ f ∷ [])) ≡ then_object (then_object o (λ o. object_after schema o fs)) (λ o. object_leads (slice_get schema.objects o) f)
    by None more = refl
    by (Some o) more = more o

  -- ---- the object at the end of a way

  led : (lead : Option ℕ) (a : Option Row) (y : Row) → of_this lead a ≡ Some y → lead ≡ Some y.object
  led (Some o) (Some z) y e = by (eqb z.object o) refl e where
    by : (b : Bool) → eqb z.object o ≡ b → cond b (Some z) None ≡ Some y → Some o ≡ Some y.object
    by true h k = ap Some (sym (eqb-true z.object o h)) ∙ ap (λ (r : Row). Some r.object) (some_same z y k)
    by false h k = absurd (none_is y k)
  led (Some o) None y e = absurd (none_is y e)
  led None (Some z) y e = absurd (none_is y e)
  led None None y e = absurd (none_is y e)

  pub reaches : (store : List Row) (fs : List ℕ) (row x : Row) → follow schema store fs row ≡ Some x → object_after schema row.object fs ≡ Some x.object
  reaches store [] row x e = ap (λ (r : Row). Some r.object) (some_same row x e)
  reaches store (f ∷ fs) row x e = by (parent schema store row f) refl e (reaches store fs) where
    by : (o : Option Row) → parent schema store row f ≡ o → then_from (follow schema store fs) o ≡ Some x →
        ((row x : Row) → follow schema store fs row ≡ Some x → object_after schema row.object fs ≡ Some x.object) →
        then_object (object_leads (slice_get schema.objects row.object) f) (λ o. object_after schema o fs) ≡ Some x.object
    by None p h more = absurd (none_is x h)
    by (Some y) p h more =
        ap (λ o. then_object o (λ o. object_after schema o fs)) (led (object_leads (slice_get schema.objects row.object) f) (named store (cell_of row f)) y p) ∙ more y x h

-- ---- Ids that a followed field has

in_left : (xs ys : List (List ℕ)) (i : List ℕ) → has_id xs i ≡ true → has_id (xs ++ ys) i ≡ true
in_left [] ys i h = absurd (clash (sym h))
in_left (x ∷ xs) ys i h = by _ h (in_left xs ys i) where
  by : (b : Bool) → (b || has_id xs i) ≡ true → (has_id xs i ≡ true → has_id (xs ++ ys) i ≡ true) → (b || has_id (xs ++ ys) i) ≡ true
  by true h more = refl
  by false h more = more h

in_right : (xs ys : List (List ℕ)) (i : List ℕ) → has_id ys i ≡ true → has_id (xs ++ ys) i ≡ true
in_right [] ys i h = h
in_right (x ∷ xs) ys i h = by _ (in_right xs ys i h) where
  by : (b : Bool) → has_id (xs ++ ys) i ≡ true → (b || has_id (xs ++ ys) i) ≡ true
  by true more = refl
  by false more = more

pub each_named : (schema : Schema) (known : List Row) (p : Path) (rows : List Row) →
    Each (λ (r : Row). (i : List ℕ) → path_value schema known r p ≡ Id i → has_id (named_over schema known p rows) i ≡ true) rows
each_named schema known p [] = tt
each_named schema known p (r ∷ rows) = (first, rest rows (each_named schema known p rows)) where
  first : (i : List ℕ) → path_value schema known r p ≡ Id i → has_id (id_in (path_value schema known r p) ++ named_over schema known p rows) i ≡ true
  first i e =
      in_left (id_in (path_value schema known r p)) (named_over schema known p rows) i (ap (λ c. has_id (id_in c) i) e ∙ ap (λ b. b || false) (itself i))

  rest : (some : List Row) → Each (λ (s : Row). (i : List ℕ) → path_value schema known s p ≡ Id i → has_id (named_over schema known p rows) i ≡ true) some →
      Each (λ (s : Row). (i : List ℕ) → path_value schema known s p ≡ Id i → has_id (named_over schema known p (r ∷ rows)) i ≡ true) some
  rest [] h = tt
  rest (s ∷ some) h = ((λ i e. in_right (id_in (path_value schema known r p)) (named_over schema known p rows) i (h.0 i e)), rest some h.1)
