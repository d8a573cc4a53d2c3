use Rattle.std.proofs.Common.{◌∷◌, sym, ap, ◌∙◌}
use Rattle.stack_code.specs.Machine.{next, on_calc}
use Rattle.program_things.proofs.Called.{renamed}
use Rattle.program_things.proofs.CellSteps.{get_is}
use Rattle.program_things.proofs.Same.{with_stack}
use Rattle.program_things.proofs.cells.get_cell.Goals as goal

pub returns : goal.returns
returns c =
    let rest = c.take-on.new.stack in let before = c.args.c.now in
    renamed c.calc_next.result _ _ c.calc_next.new.c
    (get_is c.args.field c.args.goes_on before c.take-on.result c.args.schema.now rest c.take-on.ensures
    ∙ sym (ap (λ r. on_calc r (with_stack before rest) (λ v. next (with_stack before rest) (v ∷ rest))) c.in_ok-calculated.ensures)) c.calc_next.ensures
