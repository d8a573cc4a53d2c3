-- Exceptions that are given their messages.
use Rattle.std.proofs.Common.{◌≡◌, List, [], ◌∷◌, refl, sym, ap, ◌∙◌}
use Rattle.txn_heap.specs.declared.thing.Value.{Value}
use Rattle.txn_heap.specs.declared.thing.Value.TheVariants.{Plain, Object}
use Rattle.stack_code.specs.declared.state.Config.{Config}
use Rattle.stack_code.specs.Machine.{next}
use Rattle.stack_code.specs.Things.{set_message}
use Rattle.program_things.proofs.Same.{told_alike, with_stack}

-- the operands stay
operands : (this : Value) (vs : List Value) (c : Config) (s : List Value) → (set_message this vs (with_stack c s)).top.stack ≡ s
operands (Object r) (Plain m ∷ vs) c s = refl
operands (Object r) (Object q ∷ vs) c s = refl
operands (Object r) [] c s = refl
operands (Plain k) vs c s = refl

pub told_behind : (this : Value) (vs : List Value) (before after : Config) (rest : List Value) (put : List Value → List Value) → after ≡ set_message this vs (with_stack before rest) →
    next (set_message this vs before) (put rest) ≡ next after (put after.top.stack)
told_behind this vs before after rest put e =
    let left : after.top.stack ≡ rest = ap (λ (x : Config). x.top.stack) e ∙ operands this vs before rest in
    told_alike this vs before rest (put rest) ∙ sym (ap (λ d. next d (put rest)) e) ∙ ap (λ s. next after (put s)) (sym left)
