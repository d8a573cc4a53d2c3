-- A question for a parent: behind it a query follows the field over its rows as on the whole store, and all that it knows is there.
use Rattle.std.proofs.Common.{◌≡◌, refl, ap, sym, subst, ◌∙◌, ℕ, Bool, true, false, cond, List, [], ◌∷◌, ◌++◌, Option, None, Some}
use Rattle.std.specs.Prelude.{eqb, slice_get}
use Rattle.apex_num.specs.declared.cell.Cell.{Cell}
use Rattle.apex_num.specs.declared.cell.Cell.TheVariants.{Id}
use Rattle.apex_rows.specs.declared.query.Path.{Path}
use Rattle.apex_rows.specs.declared.row.Row.{Row}
use Rattle.row_meaning.specs.Conds.{cell_of}
use Rattle.row_meaning.specs.Overlays.{Overlay, over}
use Rattle.row_meaning.specs.Queries.{object_leads, of_this, named, parent, then_from, follow, end_cell, path_value}
use Rattle.row_meaning.specs.Stores.{AllRows, find, put_all, has_id}
use Rattle.save_meaning.specs.Counts.{IsKeyed}
use Rattle.save_meaning.specs.Drafts.{untouched}
use Rattle.save_meaning.specs.Sites.{Site}
use Rattle.store_inquiries.specs.Inquiries.{Found as Done, of_store}
use Rattle.store_inquiries.specs.Questions.{rising, rows_by}
use Rattle.store_inquiries.proofs.Inquiring.{behind}
use Rattle.query_meaning.specs.Parents.{then_object, object_after, object_over, named_over}
use Rattle.query_meaning.specs.Queries.{read_parent}
use Rattle.query_meaning.proofs.Maps.{none_is, or_else, kept, InOrder, lone, find_put_all}
use Rattle.query_meaning.proofs.Seen.{Each, is_of}
use Rattle.query_meaning.proofs.Asking.{in_untouched, in_rising, come_below, come_same, come_in_order}
use Rattle.query_meaning.proofs.Overs.{Below, between, follow_below, follow_last, after_last, reaches, each_named}

none_led : (a : Option Row) → of_this None a ≡ None
none_led None = refl
none_led (Some r) = refl

-- of what came under an Id and what was known, the row of an object is that of the whole store
pick : (o : ℕ) (w k : Option Row) → ((z : Row) → k ≡ Some z → w ≡ Some z) → of_this (Some o) (or_else (kept (is_of o) w) k) ≡ of_this (Some o) w
pick o None None h = refl
pick o None (Some z) h = absurd (none_is z (h z refl))
pick o (Some y) k h = by (eqb y.object o) refl where
  none_of : (k : Option Row) → ((z : Row) → k ≡ Some z → Some y ≡ Some z) → eqb y.object o ≡ false → of_this (Some o) k ≡ None
  none_of None h e = refl
  none_of (Some z) h e = ap (of_this (Some o)) (sym (h z refl)) ∙ ap (λ c. cond c (Some y) None) e

  by : (b : Bool) → eqb y.object o ≡ b → of_this (Some o) (or_else (cond b (Some y) None) k) ≡ cond b (Some y) None
  by true e = ap (λ c. cond c (Some y) None) e
  by false e = none_of k h e

module _ (site : Site) (v : Overlay) (keyed : IsKeyed v) (store : List Row) (ordered : InOrder store) (all : AllRows site.schema store) (object : ℕ) where
  abbrev whole : List Row
  whole = over store v

  -- a query follows these fields from a row as on the whole store
  abbrev pub Follows : List Row → List ℕ → Row → Type 0
  Follows known fs r = follow site.schema known fs r ≡ follow site.schema whole fs r

  abbrev pub Resolved : List Row → List ℕ → List Row → Type 0
  Resolved known fs rows = Each (Follows known fs) rows

  abbrev Own : List Row → Type 0
  Own rows = Each (λ (r : Row). r.object ≡ object) rows

  one_stays : (known later : List Row) → Below known later → Below later whole → (fs : List ℕ) (r : Row) → Follows known fs r → Follows later fs r
  one_stays known later b w fs r e =
      between (follow site.schema known fs r) (follow site.schema later fs r) (follow site.schema whole fs r) (λ x. follow_below site.schema known later b fs r x) (λ x. follow_below site.schema later whole w fs r x) e

  -- what was resolved stays so as more rows are known
  pub stay : (known later : List Row) → Below known later → Below later whole → (fs : List ℕ) (rows : List Row) → Resolved known fs rows → Resolved later fs rows
  stay known later b w fs [] h = tt
  stay known later b w fs (r ∷ rows) h = (one_stays known later b w fs r h.0, stay known later b w fs rows h.1)

  -- the object that the field of a parent leads to, from the row at the end of its way
  leads_on : (p : Path) (lead : Option ℕ) (r x : Row) → object_over site.schema object p ≡ lead → r.object ≡ object → follow site.schema whole p.parents r ≡ Some x →
      object_leads (slice_get site.schema.objects x.object) p.field ≡ lead
  leads_on p lead r x is own e =
      ap (λ o. then_object o (λ o. object_leads (slice_get site.schema.objects o) p.field)) (sym (reaches site.schema whole p.parents r x e) ∙ ap (λ o. object_after site.schema o p.parents) own)
      ∙ sym (after_last site.schema object p.parents p.field) ∙ is

  -- one field more, by what it leads to from the row at the end of the way
  further : (known : List Row) (p : Path) (r : Row) → Follows known p.parents r →
      ((x : Row) → follow site.schema whole p.parents r ≡ Some x → parent site.schema known x p.field ≡ parent site.schema whole x p.field) → Follows known (p.parents ++ p.field ∷ []) r
  further known p r h same =
      follow_last site.schema known p.parents p.field r ∙ ap (then_from (λ r. parent site.schema known r p.field)) h ∙ by (follow site.schema whole p.parents r) refl
      ∙ sym (follow_last site.schema whole p.parents p.field r) where
        by : (o : Option Row) → follow site.schema whole p.parents r ≡ o → then_from (λ r. parent site.schema known r p.field) o ≡ then_from (λ r. parent site.schema whole r p.field) o
        by None e = refl
        by (Some x) e = same x e

  nowhere : (known : List Row) (p : Path) → object_over site.schema object p ≡ None → (rows : List Row) → Own rows → Resolved known p.parents rows → Resolved known (p.parents ++ p.field ∷ []) rows
  nowhere known p is [] own h = tt
  nowhere known p is (r ∷ rows) own h =
      (further known p r h.0 (λ x e. none known x e ∙ sym (none whole x e)), nowhere known p is rows own.1 h.1) where
        none : (some : List Row) (x : Row) → follow site.schema whole p.parents r ≡ Some x → parent site.schema some x p.field ≡ None
        none some x e = ap (λ o. of_this o (named some (cell_of x p.field))) (leads_on p None r x is own.0 e) ∙ none_led (named some (cell_of x p.field))

  module _ (rows known : List Row) (p : Path) (o : ℕ) (below : Below known whole) where
    abbrev ids : List (List ℕ)
    ids = untouched v (rising (named_over site.schema known p rows))

    abbrev found : List Row
    found = of_store store (rows_by v o ids)

    abbrev later : List Row
    later = put_all found known

    find_later : (i : List ℕ) → find later i ≡ or_else (find found i) (find known i)
    find_later i = find_put_all found known i (lone found (come_in_order site.schema v keyed store ordered all o ids))

    pub grows : Below known later
    grows i r e = find_later i ∙ by (find found i) refl where
      by : (f : Option Row) → find found i ≡ f → or_else f (find known i) ≡ Some r
      by None h = e
      by (Some y) h = sym (come_below site.schema v keyed store ordered all o ids i y h) ∙ below i r e

    pub still_below : Below later whole
    still_below i r e = by (find found i) refl (sym (find_later i) ∙ e) where
      by : (f : Option Row) → find found i ≡ f → or_else f (find known i) ≡ Some r → find whole i ≡ Some r
      by None h k = below i r k
      by (Some y) h k = come_below site.schema v keyed store ordered all o ids i y h ∙ k

    -- under an Id that was named, the row of the object is that of the whole store
    same_there : (i : List ℕ) → has_id (named_over site.schema known p rows) i ≡ true → of_this (Some o) (find later i) ≡ of_this (Some o) (find whole i)
    same_there i h =
        ap (of_this (Some o)) (find_later i ∙ ap (λ f. or_else f (find known i)) (come_same site.schema v keyed store ordered all o ids i (λ t. in_untouched v (rising (named_over site.schema known p rows)) i t (in_rising (named_over site.schema known p rows) i h))))
        ∙ pick o (find whole i) (find known i) (below i)

    same_parent : (x : Row) → ((i : List ℕ) → cell_of x p.field ≡ Id i → has_id (named_over site.schema known p rows) i ≡ true) →
        object_leads (slice_get site.schema.objects x.object) p.field ≡ Some o → parent site.schema later x p.field ≡ parent site.schema whole x p.field
    same_parent x named_too leads =
        ap (λ l. of_this l (named later (cell_of x p.field))) leads ∙ by (cell_of x p.field) refl ∙ ap (λ l. of_this l (named whole (cell_of x p.field))) (sym leads) where
          by : (c : Cell) → cell_of x p.field ≡ c → of_this (Some o) (named later c) ≡ of_this (Some o) (named whole c)
          by (Id i) e = same_there i (named_too i e)
          by _ e = refl

    reads : object_over site.schema object p ≡ Some o → (some : List Row) → Own some →
        Each (λ (r : Row). (i : List ℕ) → path_value site.schema known r p ≡ Id i → has_id (named_over site.schema known p rows) i ≡ true) some →
        Resolved known p.parents some → Resolved later (p.parents ++ p.field ∷ []) some
    reads is [] own named_too h = tt
    reads is (r ∷ some) own named_too h = (
      further later p r (one_stays known later grows still_below p.parents r h.0) (λ x e.
          same_parent x (λ i c. named_too.0 i (ap (end_cell p.field) (h.0 ∙ e) ∙ c)) (leads_on p (Some o) r x is own.0 e)),
      reads is some own.1 named_too.1 h.1,
    )

    pub parent_read : object_over site.schema object p ≡ Some o → Own rows → Resolved known p.parents rows → Resolved later (p.parents ++ p.field ∷ []) rows
    parent_read is own h = reads is rows own (each_named site.schema known p rows) h

  -- ---- a parent, read or leading nowhere

  abbrev pub read : Path → List Row → List Row → List Row
  read p rows known = of_store store (read_parent site v (object_over site.schema object p) p rows known)

  pub record Reads (rows known : List Row) (p : Path) : Type 0 where
    pub grown : Below known (read p rows known)
    pub below : Below (read p rows known) whole
    pub resolved : Resolved (read p rows known) (p.parents ++ p.field ∷ []) rows

  abbrev After : List Row → List Row → Path → List Row → Type 0
  After rows known p some = Below known some × Below some whole × Resolved some (p.parents ++ p.field ∷ []) rows

  pub reads_parent : (rows known : List Row) (p : Path) → Own rows → Below known whole → Resolved known p.parents rows → Reads rows known p
  reads_parent rows known p own below h = by (object_over site.schema object p) refl where
    of_after : (some : List Row) → some ≡ read p rows known → After rows known p some → Reads rows known p
    of_after some e a = let b = subst (After rows known p) e a in record { grown = b.0; below = b.1; resolved = b.2 }

    by : (lead : Option ℕ) → object_over site.schema object p ≡ lead → Reads rows known p
    by None is =
        of_after known (ap (λ l. of_store store (read_parent site v l p rows known)) (sym is)) ((λ i r e. e), below, nowhere known p is rows own h)
    by (Some o) is =
        of_after (later rows known p o below)
        (sym (behind store (rows_by v o (ids rows known p o below)) (λ found. Done (put_all found known))) ∙ ap (λ l. of_store store (read_parent site v l p rows known)) (sym is))
        (grows rows known p o below, still_below rows known p o below, parent_read rows known p o below is own h)
