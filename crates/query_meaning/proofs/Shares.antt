-- Sharing: the rows that a query shows are those that the user sees on the whole store.
use Rattle.std.proofs.Common.{◌≡◌, refl, ap, sym, ◌∙◌, ℕ, Bool, true, false, cond, List, [], ◌∷◌}
use Rattle.std.specs.Prelude.{◌&&◌, ◌||◌, not, bytes_eq, filter, slice_get}
use Rattle.std.proofs.lemmas.Map.Text.{is_eq-slice_cmp}
use Rattle.apex_num.specs.declared.cell.Cell.{Cell}
use Rattle.apex_num.specs.declared.cell.Cell.TheVariants.{Id}
use Rattle.apex_schema.specs.declared.schema.Access.{Access}
use Rattle.apex_schema.specs.declared.schema.Access.TheVariants.{Nothing, Read, Edit}
use Rattle.apex_schema.specs.declared.schema.Mode.{Mode}
use Rattle.apex_schema.specs.declared.schema.Mode.TheVariants.{Sharing, Without}
use Rattle.apex_rows.specs.declared.query.CondOp.TheVariants.{Equal}
use Rattle.apex_rows.specs.declared.query.Cond.TheVariants.{Compare}
use Rattle.apex_rows.specs.declared.query.Term.TheVariants.{Given}
use Rattle.apex_rows.specs.declared.row.Row.{Row}
use Rattle.row_meaning.specs.Accesses.{greater, default_of, is_id, role_from, role_of, has_role_above, level_of, shared, access}
use Rattle.row_meaning.specs.Cells.{same_cell}
use Rattle.row_meaning.specs.Conds.{cell_of, own_value, holds, holds_of}
use Rattle.row_meaning.specs.Overlays.{Overlay, merged, over}
use Rattle.row_meaning.specs.Queries.{is_visible, sees}
use Rattle.row_meaning.specs.Stores.{has_id, of_object, answer}
use Rattle.row_meaning.specs.Users.{user_id}
use Rattle.save_meaning.specs.Counts.{IsKeyed}
use Rattle.save_meaning.specs.Inserts.{ids_of}
use Rattle.save_meaning.specs.Sites.{Site}
use Rattle.store_inquiries.specs.Inquiries.{of_store}
use Rattle.store_inquiries.specs.Questions.{rising, within, row_share, shares_on}
use Rattle.query_meaning.specs.Queries.{is_hidden, shown_by}
use Rattle.query_meaning.proofs.Maps.{clash, same_id, itself, InOrder}
use Rattle.query_meaning.proofs.Seen.{Each, merge_is}
use Rattle.query_meaning.proofs.Conds.{both_true, holds_All, holds_Compare}
use Rattle.query_meaning.proofs.Asking.{in_rising, within_holds}
use Rattle.query_meaning.proofs.Orders.{filter_same}

pub id_is : (c : Cell) (id : List ℕ) → is_id c id ≡ true → c ≡ Id id
id_is (Id i) id h = ap Id (same_id i id h)
id_is _ id h = absurd (clash (sym h))

-- ---- rows among themselves

either_true : (a b : Bool) → b ≡ true → (a || b) ≡ true
either_true true b h = refl
either_true false b h = h

pub each_in : (rows : List Row) → Each (λ (r : Row). has_id (ids_of rows) r.id ≡ true) rows
each_in [] = tt
each_in (s ∷ rows) = (ap (λ b. b || has_id (ids_of rows) s.id) (itself s.id), more rows (each_in rows)) where
  more : (some : List Row) → Each (λ (r : Row). has_id (ids_of rows) r.id ≡ true) some → Each (λ (r : Row). has_id (ids_of (s ∷ rows)) r.id ≡ true) some
  more [] h = tt
  more (r ∷ some) h = (either_true (bytes_eq s.id r.id) (has_id (ids_of rows) r.id) h.0, more some h.1)

pub each_rising : (rows : List Row) → Each (λ (r : Row). has_id (rising (ids_of rows)) r.id ≡ true) rows
each_rising rows = go rows (each_in rows) where
  go : (some : List Row) → Each (λ (r : Row). has_id (ids_of rows) r.id ≡ true) some → Each (λ (r : Row). has_id (rising (ids_of rows)) r.id ≡ true) some
  go [] h = tt
  go (r ∷ some) h = (in_rising (ids_of rows) r.id h.0, go some h.1)

all_pass : (test : Row → Bool) (rows : List Row) → Each (λ (r : Row). test r ≡ true) rows → rows ≡ filter test rows
all_pass test [] h = refl
all_pass test (r ∷ rows) h = ap (λ (more : List Row). r ∷ more) (all_pass test rows h.1) ∙ ap (λ b. cond b (r ∷ filter test rows) (filter test rows)) (sym h.0)

-- ---- what is shared with a user of a row

abbrev gives : List ℕ → List ℕ → Row → Bool
gives row user s = is_id (cell_of s 2) row && is_id (cell_of s 3) user

shared_filter : (row user : List ℕ) (ss : List Row) → shared (filter (gives row user) ss) row user ≡ shared ss row user
shared_filter row user [] = refl
shared_filter row user (s ∷ ss) = by (gives row user s) refl (shared_filter row user ss) where
  by : (b : Bool) → gives row user s ≡ b → shared (filter (gives row user) ss) row user ≡ shared ss row user →
      shared (cond b (s ∷ filter (gives row user) ss) (filter (gives row user) ss)) row user ≡ greater (cond (gives row user s) (level_of (cell_of s 4)) Nothing) (shared ss row user)
  by true e more = ap (greater (cond (gives row user s) (level_of (cell_of s 4)) Nothing)) more
  by false e more = more ∙ ap (λ b. greater (cond b (level_of (cell_of s 4)) Nothing) (shared ss row user)) (sym e)

asked_too : (ids : List (List ℕ)) (row : List ℕ) (user : ℕ) → has_id ids row ≡ true → (s : Row) → gives row (user_id user) s ≡ true → holds_of (shares_on ids user) s ≡ true
asked_too ids row user h s g =
    holds_All [] (own_value s) (within 2 ids ∷ Compare (record { parents = []; field = 3 }) Equal (Given (Id (user_id user))) ∷ [])
    ∙ ap (λ b. b && (holds [] (own_value s) (Compare (record { parents = []; field = 3 }) Equal (Given (Id (user_id user)))) && true)) (within_holds 2 ids s row (id_is (cell_of s 2) row both.0) ∙ h)
    ∙ ap (λ b. b && true) same where
      both : (is_id (cell_of s 2) row ≡ true) × (is_id (cell_of s 3) (user_id user) ≡ true)
      both = both_true (is_id (cell_of s 2) row) (is_id (cell_of s 3) (user_id user)) g

      same : holds [] (own_value s) (Compare (record { parents = []; field = 3 }) Equal (Given (Id (user_id user)))) ≡ true
      same =
          holds_Compare [] (own_value s) (record { parents = []; field = 3 }) Equal (Given (Id (user_id user)))
          ∙ ap (λ c. same_cell c (Id (user_id user))) (id_is (cell_of s 3) (user_id user) both.1) ∙ is_eq-slice_cmp (user_id user) (user_id user) ∙ itself (user_id user)

module _ (site : Site) (v : Overlay) (keyed : IsKeyed v) (store : List Row) (ordered : InOrder store) where
  abbrev whole : List Row
  whole = over store v

  abbrev share : ℕ
  share = row_share site.schema

  abbrev me : List ℕ
  me = user_id site.ticket.user

  abbrev shares : List (List ℕ) → List Row
  shares ids = merged v share (answer store share (shares_on ids site.ticket.user))

  shared_same : (ids : List (List ℕ)) (row : List ℕ) → has_id ids row ≡ true → shared (shares ids) row me ≡ shared (of_object share whole) row me
  shared_same ids row h =
      sym (shared_filter row me (shares ids))
      ∙ ap (λ ss. shared ss row me) (merge_is v keyed store ordered share (shares_on ids site.ticket.user) (gives row me) (asked_too ids row site.ticket.user h))
      ∙ shared_filter row me (of_object share whole)

  access_same : (ids : List (List ℕ)) (r : Row) → has_id ids r.id ≡ true →
      is_visible (access site.schema site.ticket.user r (shares ids)) ≡ is_visible (access site.schema site.ticket.user r (of_object share whole))
  access_same ids r h =
      ap (λ a. is_visible (greater (default_of (slice_get site.schema.objects r.object)) (greater (cond (is_id (cell_of r 1) me) Edit Nothing)
      (greater (cond (has_role_above site.schema.roles (role_from 0 site.schema.users (cell_of r 1)) (role_of (slice_get site.schema.users site.ticket.user))) Edit Nothing) a)))) (shared_same ids r.id h)

  each_access : (ids : List (List ℕ)) (rows : List Row) → Each (λ (r : Row). has_id ids r.id ≡ true) rows →
      Each (λ (r : Row). is_visible (access site.schema site.ticket.user r (shares ids)) ≡ is_visible (access site.schema site.ticket.user r (of_object share whole))) rows
  each_access ids [] h = tt
  each_access ids (r ∷ rows) h = (access_same ids r h.0, each_access ids rows h.1)

  abbrev seen : Mode → Row → Bool
  seen mode r = sees site.schema share whole mode site.ticket.user r

  -- what everybody has is enough
  visible_more : (a b : Access) → is_visible a ≡ true → is_visible (greater a b) ≡ true
  visible_more Nothing b h = absurd (clash (sym h))
  visible_more Read Nothing h = refl
  visible_more Read Read h = refl
  visible_more Read Edit h = refl
  visible_more Edit b h = refl

  open_to_all : (object : ℕ) (rows : List Row) → Each (λ (r : Row). r.object ≡ object) rows → is_visible (default_of (slice_get site.schema.objects object)) ≡ true →
      Each (λ (r : Row). seen Sharing r ≡ true) rows
  open_to_all object [] own h = tt
  open_to_all object (r ∷ rows) own h =
      (visible_more (default_of (slice_get site.schema.objects r.object)) _ (ap (λ o. is_visible (default_of (slice_get site.schema.objects o))) own.0 ∙ h), open_to_all object rows own.1 h)

  hidden_shown : (rows : List Row) → of_store store (shown_by site v true rows) ≡ filter (seen Sharing) rows
  hidden_shown [] = refl
  hidden_shown (r ∷ rows) =
      filter_same (λ (s : Row). is_visible (access site.schema site.ticket.user s (shares (rising (ids_of (r ∷ rows)))))) (seen Sharing) (r ∷ rows)
      (each_access (rising (ids_of (r ∷ rows))) (r ∷ rows) (each_rising (r ∷ rows)))

  each_true : (rows : List Row) → Each (λ (r : Row). true ≡ true) rows
  each_true [] = tt
  each_true (r ∷ rows) = (refl, each_true rows)

  pub shown : (mode : Mode) (object : ℕ) (rows : List Row) → Each (λ (r : Row). r.object ≡ object) rows → of_store store (shown_by site v (is_hidden site v mode object) rows) ≡ filter (seen mode) rows
  shown Without object rows own = all_pass (seen Without) rows (each_true rows)
  shown Sharing object rows own = by (is_visible (default_of (slice_get site.schema.objects object))) refl where
    by : (b : Bool) → is_visible (default_of (slice_get site.schema.objects object)) ≡ b → of_store store (shown_by site v (not (is_visible (default_of (slice_get site.schema.objects object)))) rows) ≡ filter (seen Sharing) rows
    by true e = ap (λ b. of_store store (shown_by site v (not b) rows)) e ∙ all_pass (seen Sharing) rows (open_to_all object rows own e)
    by false e = ap (λ b. of_store store (shown_by site v (not b) rows)) e ∙ hidden_shown rows
