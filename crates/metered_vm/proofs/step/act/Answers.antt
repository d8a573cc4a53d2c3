use Rattle.std.proofs.Common.{sym, ap, ◌∙◌}
use Rattle.std.specs.Option.{option_copied}
use Rattle.metered_vm.proofs.Leads.{leads_at}
use Rattle.metered_vm.proofs.step.act.Goals as goal

pub act_at-requires-clause-leads : goal.act_at-requires-clause-leads
act_at-requires-clause-leads c =
    leads_at c.args.image.now c.requires.checked c.args.c.now.top.body c.in-Some.ensures.fits c.in-Some.instr.now c.args.c.now.top.pc (sym c.instr_at.ensures.value ∙ ap option_copied c.in-Some.is)
