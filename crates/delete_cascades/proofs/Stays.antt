-- Rows that go, and rows that are held.
use Rattle.std.proofs.Common.{◌≡◌, ℕ, ◌+◌, ◌<◌, Bool, false, not, List, [], ◌∷◌, ◌++◌, length, drop, get_or, refl, sym, ap, ◌∙◌}
use Rattle.std.specs.Prelude.{◌||◌, ◌&&◌, bytes_eq}
use Rattle.std.specs.List.{list_any}
use Rattle.apex_rows.specs.declared.row.Row.{Row}
use Rattle.row_meaning.specs.Stores.{has_id}
use Rattle.save_meaning.specs.Inserts.{ids_of}
use Rattle.save_statements.specs.declared.pending.Naming.{Naming}
use Rattle.save_statements.specs.Records.{names_one}
use Rattle.save_statements.specs.Checks.{is_held, joined}
use Rattle.delete_cascades.specs.Held.{held_by, holds}
use Rattle.delete_cascades.proofs.Tests.{and_none, and_or, any_never, any_or, any_same, here, or_more, or_pairs}
use Rattle.delete_cascades.proofs.Under.{names_split, names_none}

-- ---- the Ids of rows, list by list

ids_append : (xs ys : List Row) (id : List ℕ) → has_id (ids_of (xs ++ ys)) id ≡ (has_id (ids_of xs) id || has_id (ids_of ys) id)
ids_append [] ys id = refl
ids_append (x ∷ xs) ys id = ap (λ b. bytes_eq x.id id || b) (ids_append xs ys id) ∙ sym (or_more (bytes_eq x.id id) (has_id (ids_of xs) id) (has_id (ids_of ys) id))

-- what is known of a set, with what is still to be added, is what it is at the end
pub add_next : (old new b rest whole : Bool) → (old || (b || rest)) ≡ whole → new ≡ (old || b) → (new || rest) ≡ whole
add_next old new b rest whole h e = ap (λ x. x || rest) e ∙ or_more old b rest ∙ h

module _ (id : List ℕ) (i : ℕ) where
  pub level_next : (levels : List (List Row)) (rows : List Row) (old new whole : Bool) → i < length levels → rows ≡ get_or levels i rows →
      (old || has_id (ids_of (joined (drop i levels))) id) ≡ whole → new ≡ (old || has_id (ids_of rows) id) → (new || has_id (ids_of (joined (drop (i + 1) levels))) id) ≡ whole
  level_next levels rows old new whole lt at h e =
      add_next old new (has_id (ids_of rows) id) (has_id (ids_of (joined (drop (i + 1) levels))) id) whole
      (ap (λ b. old || b) (sym (ids_append rows (joined (drop (i + 1) levels)) id)) ∙ ap (λ (ls : List (List Row)). old || has_id (ids_of (joined ls)) id) (sym (here i levels rows lt at)) ∙ h) e

pub gone_is : (xs ys : List Row) (id : List ℕ) (old new : Bool) → old ≡ has_id (ids_of xs) id → new ≡ (old || has_id (ids_of ys) id) → new ≡ has_id (ids_of (xs ++ ys)) id
gone_is xs ys id old new h e = e ∙ ap (λ b. b || has_id (ids_of ys) id) h ∙ sym (ids_append xs ys id)

-- ---- what is held, Id by Id

held_is : (goes : List ℕ → Bool) (gone : List (List ℕ)) → ((id : List ℕ) → goes id ≡ has_id gone id) → (found : List (Naming × List Row)) (id : List ℕ) → held_by goes found id ≡ is_held found gone (id ∷ [])
held_is goes gone same [] id = refl
held_is goes gone same (q ∷ qs) id =
    ap (λ b. b || held_by goes qs id)
    (any_same (holds goes q.0 id) (λ (r : Row). not (has_id gone r.id) && names_one q.0.field (id ∷ []) r) (λ r. ap (λ b. not b && names_one q.0.field (id ∷ []) r) (same r.id)) q.1)
    ∙ ap (λ b. list_any (λ (r : Row). not (has_id gone r.id) && names_one q.0.field (id ∷ []) r) q.1 || b) (held_is goes gone same qs id)

held_split : (found : List (Naming × List Row)) (gone : List (List ℕ)) (i : List ℕ) (is : List (List ℕ)) → is_held found gone (i ∷ is) ≡ (is_held found gone (i ∷ []) || is_held found gone is)
held_split [] gone i is = refl
held_split (q ∷ qs) gone i is =
    ap (λ b. b || is_held qs gone (i ∷ is))
    (any_or (λ (r : Row). not (has_id gone r.id) && names_one q.0.field (i ∷ []) r) (λ (r : Row). not (has_id gone r.id) && names_one q.0.field is r) (λ (r : Row). not (has_id gone r.id) && names_one q.0.field (i ∷ is) r)
    (λ r. ap (λ b. not (has_id gone r.id) && b) (names_split q.0.field i is r) ∙ and_or (not (has_id gone r.id)) (names_one q.0.field (i ∷ []) r) (names_one q.0.field is r)) q.1)
    ∙ ap (λ b. (list_any (λ (r : Row). not (has_id gone r.id) && names_one q.0.field (i ∷ []) r) q.1 || list_any (λ (r : Row). not (has_id gone r.id) && names_one q.0.field is r) q.1) || b) (held_split qs gone i is)
    ∙ or_pairs (list_any (λ (r : Row). not (has_id gone r.id) && names_one q.0.field (i ∷ []) r) q.1) (list_any (λ (r : Row). not (has_id gone r.id) && names_one q.0.field is r) q.1)
    (is_held qs gone (i ∷ [])) (is_held qs gone is)

held_nothing : (found : List (Naming × List Row)) (gone : List (List ℕ)) → is_held found gone [] ≡ false
held_nothing [] gone = refl
held_nothing (q ∷ qs) gone =
    ap (λ b. b || is_held qs gone [])
    (any_never (λ (r : Row). not (has_id gone r.id) && names_one q.0.field [] r) (λ r. ap (λ b. not (has_id gone r.id) && b) (names_none q.0.field r) ∙ and_none (not (has_id gone r.id))) q.1)
    ∙ held_nothing qs gone

-- one of some Ids is held exactly where the first of them is, or the second, and so on
pub held_any : (goes held : List ℕ → Bool) (gone : List (List ℕ)) (found : List (Naming × List Row)) → ((id : List ℕ) → goes id ≡ has_id gone id) → ((id : List ℕ) → held id ≡ held_by goes found id) →
    (ids : List (List ℕ)) → list_any held ids ≡ is_held found gone ids
held_any goes held gone found same is [] = sym (held_nothing found gone)
held_any goes held gone found same is (i ∷ ids) =
    ap (λ b. b || list_any held ids) (is i ∙ held_is goes gone same found i) ∙ ap (λ b. is_held found gone (i ∷ []) || b) (held_any goes held gone found same is ids) ∙ sym (held_split found gone i ids)
