-- Code that grows by the same instruction.
use Rattle.std.specs.Prelude.{◌≡◌, ℕ, zero, suc, ◌+◌, [], ◌∷◌, ◌++◌, replicate}
use Rattle.std.proofs.Common.{refl, ap, ◌∙◌, arith, append_assoc}
use Rattle.stack_code.specs.declared.code.Instr.TheVariants as I
use Rattle.stack_code.specs.Code.{Instrs}

turned : (n : ℕ) → replicate n I.Pop ++ I.Pop ∷ [] ≡ replicate (suc n) I.Pop
turned zero = refl
turned (suc n) = ap (λ c. I.Pop ∷ c) (turned n)

pub popped : (old new start : Instrs) (n : ℕ) → old ≡ start ++ replicate n I.Pop → new ≡ old ++ I.Pop ∷ [] → new ≡ start ++ replicate (n + 1) I.Pop
popped old new start n o e =
    e ∙ ap (λ c. c ++ I.Pop ∷ []) o ∙ append_assoc start (replicate n I.Pop) (I.Pop ∷ []) ∙ ap (λ c. start ++ c) (turned n)
    ∙ ap (λ k. start ++ replicate k I.Pop) (let g : suc n ≡ n + 1 = omega arith in g)
