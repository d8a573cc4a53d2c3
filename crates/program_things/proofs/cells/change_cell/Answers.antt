use Rattle.std.proofs.Common.{◌∷◌, cond, sym, ap, ◌∙◌}
use Rattle.stack_code.specs.Machine.{next, on_calc}
use Rattle.stack_code.specs.Things.{cell_stored}
use Rattle.value_operators.specs.Operators.{stepped}
use Rattle.program_things.proofs.Called.{renamed}
use Rattle.program_things.proofs.CellSteps.{change_is}
use Rattle.program_things.proofs.Same.{with_stack}
use Rattle.program_things.proofs.cells.change_cell.Goals as goal

pub returns : goal.returns
returns c =
    let rest = c.take-on.new.stack in let before = c.args.c.now in let on = c.take-on.result in
    renamed c.change_read.result _ _ c.change_read.new.c
    (change_is c.args.field c.args.goes_on before on c.args.kind c.args.number rest c.take-on.ensures c.args.schema.now
    ∙ sym (ap (λ r. on_calc r (with_stack before rest) (λ old. on_calc (stepped c.args.kind.up c.args.number old) (with_stack before rest) (λ new. cell_stored c.args.field on new (with_stack before rest) (λ e. next e (cond c.args.kind.before new old ∷ rest))))) c.in_ok-calculated.ensures)) c.change_read.ensures
