use Rattle.std.proofs.Common.{◌<◌, ◌++◌, ℕ, zero, suc, [], ◌∷◌, Contains, sym, ap, subst, ◌∙◌, refl, arith}
use Rattle.turn_lock.specs.Passes.{numbers}
use Rattle.turn_lock.proofs.tests.both_turns.Goals as goal

of_two : (n : ℕ) → n < 2 → Contains (0 ∷ 1 ∷ []) n
of_two zero h = (0, omega arith, refl)
of_two (suc zero) h = (1, omega arith, refl)
of_two (suc (suc n)) h = absurd (omega arith)

pub close-requires-clause-all : goal.close-requires-clause-all
close-requires-clause-all g c = λ n h.
    subst (λ ns. Contains ns n) (sym (c.meet-all.ensures.numbers ∙ ap (λ z. z ++ numbers c.join-a.result.1) c.join-a.ensures.first.1 ∙ ap (λ z. (0 ∷ []) ++ z) c.join-a.ensures.second.1))
    (of_two n (subst (λ p. n < p) c.requires.two h))
