-- Operators that are known by their names.
use Rattle.std.proofs.Common.{◌≡◌, List, ◌∷◌, sym, subst}
use Rattle.txn_heap.specs.declared.thing.Value.{Value}
use Rattle.typed_program.specs.declared.expr.Conversion.{Conversion}
use Rattle.typed_program.specs.declared.expr.TypedOp.{TypedOp}
use Rattle.value_operators.specs.Operators.{applied}
use Rattle.stack_code.specs.declared.state.Config.{Config}
use Rattle.stack_code.specs.Machine.{next, on_calc}
use Rattle.stack_code.specs.Steps.{operator_next}

pub named : (left : Conversion) (op o : TypedOp) (right : Conversion) (v w : Value) (c : Config) (stack : List Value) → op ≡ o →
    operator_next left o right v w c stack ≡ on_calc (applied left o right v w) c (λ x. next c (x ∷ stack)) → operator_next left op right v w c stack ≡ on_calc (applied left op right v w) c (λ x. next c (x ∷ stack))
named left op o right v w c stack e h = subst (λ p. operator_next left p right v w c stack ≡ on_calc (applied left p right v w) c (λ x. next c (x ∷ stack))) (sym e) h
