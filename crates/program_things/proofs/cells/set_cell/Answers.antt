use Rattle.std.proofs.Common.{◌∷◌, sym, ap, ◌∙◌}
use Rattle.stack_code.specs.Machine.{next}
use Rattle.stack_code.specs.Things.{cell_stored}
use Rattle.program_things.proofs.Same.{with_stack}
use Rattle.program_things.proofs.Called.{renamed}
use Rattle.program_things.proofs.CellSteps.{set_is}
use Rattle.program_things.proofs.cells.set_cell.Goals as goal

pub returns : goal.returns
returns c =
    renamed c.cell_stored.result _ _ c.cell_stored.new.c
    (set_is c.args.field c.args.goes_on c.args.c.now c.take-on.result c.take-value.result c.take-value.new.stack c.take-on.new.stack c.take-value.ensures c.take-on.ensures
    ∙ sym (ap (λ v. cell_stored c.args.field c.take-on.result v (with_stack c.args.c.now c.take-on.new.stack) (λ d. next d (c.take-value.result ∷ c.take-on.new.stack))) c.in_ok-copy.ensures)) c.cell_stored.ensures
