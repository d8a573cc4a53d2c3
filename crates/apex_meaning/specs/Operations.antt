-- Operators (docs/language.md, "What code does").
use Rattle.std.specs.Prelude.{ℕ, ◌+◌, Bool, true, false, cond, List, [], ◌∷◌, length}
use Rattle.apex_num.specs.declared.cell.Cell.TheVariants as C
use Rattle.apex_num.specs.declared.kind.LimitKind.TheVariants.{Alloc}
use Rattle.save_meaning.specs.Results.{Gives, bind}
use Rattle.request_states.specs.States.{State, Res, charge}
use Rattle.txn_heap.specs.declared.thing.Value.{Value}
use Rattle.txn_heap.specs.declared.thing.Value.TheVariants.{Plain}
use Rattle.typed_program.specs.declared.expr.Conversion.{Conversion}
use Rattle.typed_program.specs.declared.expr.TypedOp.{TypedOp}
use Rattle.typed_program.specs.declared.expr.TypedOp.TheVariants as Op
use Rattle.value_operators.specs.Operators.{applied, joined}
use Rattle.apex_meaning.specs.Meanings.{Run, Behind, Test, calc, truth_of}

abbrev pub boolean : Bool → Value
boolean b = Plain (C.Bool b)

-- a text that an operator makes is charged first, at 16 units and one for each byte
abbrev pub text_made : List ℕ → Run
text_made text st = bind (charge Alloc (16 + length text) st) (λ u s. Gives (Plain (C.Text text)) s)

-- both operands are there
abbrev pub apply : Conversion → TypedOp → Conversion → Value → Value → Run
apply left Op.Join right v w st = text_made (joined v w) st
apply left op right v w st = calc (applied left op right v w) st

-- the right operand of `&&` and `||`, where the left one doesn't decide
abbrev pub decided : Run → Run
decided right st = bind (right st) (λ w s. bind (truth_of w s) (λ b s1. Gives (boolean b) s1))

abbrev pub both : Run → Bool → Run
both right true st = decided right st
both right false st = Gives (boolean false) st

abbrev pub either : Run → Bool → Run
either right true st = Gives (boolean true) st
either right false st = decided right st

-- an operator with what stands behind it; `&&` and `||` evaluate that only where what stands before doesn't decide
abbrev pub operated : Conversion → TypedOp → Conversion → Run → Behind
operated left Op.And right e v st = bind (truth_of v st) (both e)
operated left Op.Or right e v st = bind (truth_of v st) (either e)
operated left op right e v st = bind (e st) (λ w s. apply left op right v w s)

-- a chain, from left to right
abbrev pub chained : List Behind → Behind
chained [] v st = Gives v st
chained (o ∷ os) v st = bind (o v st) (chained os)
