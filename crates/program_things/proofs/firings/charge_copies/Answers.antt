use Rattle.std.proofs.Common.{subst}
use Rattle.apex_num.specs.declared.kind.LimitKind.TheVariants.{Alloc}
use Rattle.trigger_things.specs.Things.{copy_units}
use Rattle.program_things.specs.Steps.{Charges}
use Rattle.program_things.proofs.Charged.{capped_charges}
use Rattle.program_things.proofs.firings.charge_copies.Goals as goal

pub returns : goal.returns
returns c =
    capped_charges (copy_units c.args.schema.now c.args.context.now) c.args.c.now c.charge.result c.charge.new.c (subst (λ n. Charges Alloc n c.args.c.now c.charge.result c.charge.new.c) c.copy_units.ensures c.charge.ensures)
