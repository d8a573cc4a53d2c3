-- Logs, question by question.
use Rattle.std.proofs.Common.{arith, ◌≡◌, sym, ap, subst, ◌∙◌, ℕ, zero, suc, ◌+◌, ◌<◌, ◌≤◌, List, [], ◌∷◌, length, take, get_or}
use Rattle.apex_rows.specs.declared.query.Answer.{Answer}
use Rattle.apex_rows.specs.declared.query.Question.{Question}
use Rattle.apex_rows.specs.declared.row.Row.{Row}
use Rattle.record_store.specs.Places.{answer_to}
use Rattle.tenant_shards.specs.Logs.{AreCurrent, IsStaleAt}

module _ (rows : List Row) where
  pub one_more : (k : ℕ) (qs : List Question) (gs : List Answer) (q : Question) (g : Answer) → k < length qs → length qs ≡ length gs → q ≡ get_or qs k q → g ≡ get_or gs k g → g ≡ answer_to rows q → AreCurrent rows (take k qs) (take k gs) → AreCurrent rows (take (k + 1) qs) (take (k + 1) gs)
  one_more k [] gs q g lt long eq eg e h = absurd (omega (arith, lt))
  one_more k (p ∷ qs) [] q g lt long eq eg e h = absurd (omega (arith, long))
  one_more zero (p ∷ qs) (f ∷ gs) q g lt long eq eg e h = (sym eg ∙ e ∙ ap (λ x. answer_to rows x) eq, tt)
  one_more (suc k) (p ∷ qs) (f ∷ gs) q g lt long eq eg e h =
      let on : suc k + 1 ≡ suc (k + 1) = omega arith in
      subst (λ n. AreCurrent rows (take n (p ∷ qs)) (take n (f ∷ gs))) (sym on) (h.0, one_more k qs gs q g (omega (arith, lt)) (omega (arith, long)) eq eg e h.1)

  pub stale : (k : ℕ) (qs : List Question) (gs : List Answer) (q : Question) (g : Answer) → k < length qs → length qs ≡ length gs → q ≡ get_or qs k q → g ≡ get_or gs k g → (g ≡ answer_to rows q → ⊥) → AreCurrent rows (take k qs) (take k gs) → IsStaleAt rows qs gs k
  stale k [] gs q g lt long eq eg e h = absurd (omega (arith, lt))
  stale k (p ∷ qs) [] q g lt long eq eg e h = absurd (omega (arith, long))
  stale zero (p ∷ qs) (f ∷ gs) q g lt long eq eg e h = λ same. e (eg ∙ same ∙ ap (λ x. answer_to rows x) (sym eq))
  stale (suc k) (p ∷ qs) (f ∷ gs) q g lt long eq eg e h = (h.0, stale k qs gs q g (omega (arith, lt)) (omega (arith, long)) eq eg e h.1)

  pub whole : (k : ℕ) (qs : List Question) (gs : List Answer) → length qs ≤ k → length qs ≡ length gs → AreCurrent rows (take k qs) (take k gs) → AreCurrent rows qs gs
  whole k [] [] le long h = tt
  whole k [] (g ∷ gs) le long h = absurd (omega (arith, long))
  whole k (q ∷ qs) [] le long h = absurd (omega (arith, long))
  whole zero (q ∷ qs) (g ∷ gs) le long h = absurd (omega (arith, le))
  whole (suc k) (q ∷ qs) (g ∷ gs) le long h = (h.0, whole k qs gs (omega (arith, le)) (omega (arith, long)) h.1)
