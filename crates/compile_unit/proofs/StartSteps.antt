-- What runs where a constructor isn't written, call by call.
use Rattle.std.specs.Prelude.{◌≡◌, ℕ, zero, suc, ◌-◌, Option, Some}
use Rattle.std.proofs.Common.{refl, sym, ap, ◌∙◌, arith}
use Rattle.apex_meaning.specs.Classes.{class_at, implied_of, starts_by, starts_within}
use Rattle.typed_program.specs.declared.program.Program.{Program}
use Rattle.typed_program.specs.declared.unit.ImpliedCall.{ImpliedCall}

one_call : (program : Program) (most : ℕ) (i : ImpliedCall) → (most ≡ 0 → ⊥) → starts_within most program (Some i) ≡ starts_by i.constructor i.class (starts_within (most - 1) program (implied_of (class_at program i.class)))
one_call program zero i h = absurd (h refl)
one_call program (suc n) i h =
    ap (λ k. starts_by i.constructor i.class (starts_within k program (implied_of (class_at program i.class)))) (let g : n ≡ suc n - 1 = omega arith in g)

pub some_call : (program : Program) (most : ℕ) (call : Option ImpliedCall) (i : ImpliedCall) → (most ≡ 0 → ⊥) → call ≡ Some i → starts_by i.constructor i.class (starts_within (most - 1) program (implied_of (class_at program i.class))) ≡ starts_within most program call
some_call program most call i h e = sym (ap (λ c. starts_within most program c) e ∙ one_call program most i h)
