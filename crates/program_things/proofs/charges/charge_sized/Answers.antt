use Rattle.std.proofs.Common.{sym, subst}
use Rattle.program_things.specs.Steps.{ChargesSize}
use Rattle.program_things.proofs.Sizes.{sized_charges}
use Rattle.program_things.proofs.charges.charge_sized.Goals as goal

pub returns-in-Some : goal.returns-in-Some
returns-in-Some c =
    subst (λ s. ChargesSize s c.args.c.now c.charge.result c.charge.new.c) (sym c.in-Some.is)
    (sized_charges c.in-Some.size c.saturating_add.result c.args.c.now c.charge.result c.charge.new.c c.saturating_add.ensures c.charge.ensures)
