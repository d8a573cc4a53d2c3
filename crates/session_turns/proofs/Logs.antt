-- Logs, question by question, and the lists of rows in them.
use Rattle.std.proofs.Common.{◌≡◌, refl, sym, ap, subst, ◌∙◌, ℕ, ◌+◌, cond, Bool, true, false, List, [], ◌∷◌, ◌++◌, append_assoc, append-nil, length, length-append, Some}
use Rattle.std.specs.Prelude.{bytes_eq, ◌||◌}
use Rattle.std.proofs.lemmas.Bool.{eq-eqb}
use Rattle.apex_rows.specs.declared.query.Answer.{Answer}
use Rattle.apex_rows.specs.declared.query.Question.{Question}
use Rattle.apex_rows.specs.declared.row.Row.{Row}
use Rattle.record_store.specs.Places.{answer_to}
use Rattle.row_locks.specs.Holders.{Holders}
use Rattle.row_meaning.specs.Stores.{has_id}
use Rattle.legal_trails.specs.Legal.{all_ids, is_by}
use Rattle.tenant_trails.specs.Runs.{Asks, Run, grabs_on, ids_asked, ids_of_run}
use Rattle.tenant_shards.specs.declared.log.Log.{Log}
use Rattle.tenant_shards.specs.Logs.{AreCurrent, IsCurrent, IsLogOf, IsStale}
use Rattle.tenant_shards.specs.Shards.{holding}
use Rattle.tenant_shards.proofs.Asked.{not_both}

-- ---- answers that are those of the rows as they are

pub never_stale : (rows : List Row) (log : Log) (k : ℕ) → IsStale rows log k → IsCurrent rows log → ⊥
never_stale rows log k s c = not_both rows log.asked log.answers k s c

-- one question more with its answer
current_more : (rows : List Row) (qs : List Question) (gs : List Answer) (q : Question) (a : Answer) → AreCurrent rows qs gs → a ≡ answer_to rows q → AreCurrent rows (qs ++ q ∷ []) (gs ++ a ∷ [])
current_more rows [] [] q a h e = (e, tt)
current_more rows [] (g ∷ gs) q a h e = absurd h
current_more rows (p ∷ qs) [] q a h e = absurd h
current_more rows (p ∷ qs) (g ∷ gs) q a h e = (h.0, current_more rows qs gs q a h.1 e)

module _ (go : List Answer → Run) where
  log_more : (before : List Answer) (qs : List Question) (gs : List Answer) (q : Question) (a : Answer) → IsLogOf go before qs gs → go (before ++ gs) ≡ Asks q → IsLogOf go before (qs ++ q ∷ []) (gs ++ a ∷ [])
  log_more before [] [] q a l e = (ap go (sym (append-nil before)) ∙ e, tt)
  log_more before [] (g ∷ gs) q a l e = absurd l
  log_more before (p ∷ qs) [] q a l e = absurd l
  log_more before (p ∷ qs) (g ∷ gs) q a l e = (l.0, log_more (before ++ g ∷ []) qs gs q a l.1 (ap go (append_assoc before (g ∷ []) gs) ∙ e))

  grabs_more : (before gs : List Answer) (q : Question) (a : Answer) → go (before ++ gs) ≡ Asks q → grabs_on go before (gs ++ a ∷ []) ≡ grabs_on go before gs ++ ids_asked q
  grabs_more before [] q a e = append-nil (ids_of_run (go before)) ∙ ap ids_of_run (ap go (sym (append-nil before)) ∙ e)
  grabs_more before (g ∷ gs) q a e =
      ap (λ ids. ids_of_run (go before) ++ ids) (grabs_more (before ++ g ∷ []) gs q a (ap go (append_assoc before (g ∷ []) gs) ∙ e))
      ∙ sym (append_assoc (ids_of_run (go before)) (grabs_on go (before ++ g ∷ []) gs) (ids_asked q))

-- ---- a log that has one question more

module _ (go : List Answer → Run) (rows : List Row) (old new : Log) (q : Question) (a : Answer) (asked : new.asked ≡ old.asked ++ q ∷ []) (answers : new.answers ≡ old.answers ++ a ∷ []) where
  pub is_current : IsCurrent rows old → a ≡ answer_to rows q → IsCurrent rows new
  is_current c e =
      subst (λ qs. AreCurrent rows qs new.answers) (sym asked) (subst (λ gs. AreCurrent rows (old.asked ++ q ∷ []) gs) (sym answers) (current_more rows old.asked old.answers q a c e))

  pub is_log : IsLogOf go [] old.asked old.answers → go old.answers ≡ Asks q → IsLogOf go [] new.asked new.answers
  is_log l e =
      subst (λ qs. IsLogOf go [] qs new.answers) (sym asked) (subst (λ gs. IsLogOf go [] (old.asked ++ q ∷ []) gs) (sym answers) (log_more go [] old.asked old.answers q a l e))

  pub grabs_are : go old.answers ≡ Asks q → grabs_on go [] new.answers ≡ grabs_on go [] old.answers ++ ids_asked q
  grabs_are e = ap (grabs_on go []) answers ∙ grabs_more go [] old.answers q a e

-- ---- lists of rows

pub one_longer : {A : Type 0} (xs : List A) (x : A) → length (xs ++ x ∷ []) ≡ length xs + 1
one_longer xs x = length-append xs (x ∷ [])

all_more : (gs : List (List (List ℕ))) (ids : List (List ℕ)) → all_ids (gs ++ ids ∷ []) ≡ all_ids gs ++ ids
all_more [] ids = append-nil ids
all_more (g ∷ gs) ids = ap (λ more. g ++ more) (all_more gs ids) ∙ sym (append_assoc g (all_ids gs) ids)

or_assoc : (a b c : Bool) → (a || (b || c)) ≡ ((a || b) || c)
or_assoc true b c = refl
or_assoc false b c = refl

has_more : (xs ys : List (List ℕ)) (id : List ℕ) → has_id (xs ++ ys) id ≡ (has_id xs id || has_id ys id)
has_more [] ys id = refl
has_more (x ∷ xs) ys id = ap (λ b. bytes_eq x id || b) (has_more xs ys id) ∙ or_assoc (bytes_eq x id) (has_id xs id) (has_id ys id)

or_true : (a : Bool) → (a || true) ≡ true
or_true true = refl
or_true false = refl

or_false : (a : Bool) → (a || false) ≡ a
or_false true = refl
or_false false = refl

-- a session that took one list more holds just those of all
pub holds_more : (s : ℕ) (held : Holders) (gs : List (List (List ℕ))) (ids : List (List ℕ)) (id : List ℕ) → is_by s (held id) ≡ has_id (all_ids gs) id → is_by s (holding s ids held id) ≡ has_id (all_ids (gs ++ ids ∷ [])) id
holds_more s held gs ids id h = by (has_id ids id) refl ∙ sym (ap (λ more. has_id more id) (all_more gs ids) ∙ has_more (all_ids gs) ids id) where
  by : (b : Bool) → has_id ids id ≡ b → is_by s (cond (has_id ids id) (Some s) (held id)) ≡ (has_id (all_ids gs) id || has_id ids id)
  by true e = ap (λ b. is_by s (cond b (Some s) (held id))) e ∙ eq-eqb s s refl ∙ sym (ap (λ b. has_id (all_ids gs) id || b) e ∙ or_true (has_id (all_ids gs) id))
  by false e = ap (λ b. is_by s (cond b (Some s) (held id))) e ∙ h ∙ sym (ap (λ b. has_id (all_ids gs) id || b) e ∙ or_false (has_id (all_ids gs) id))
