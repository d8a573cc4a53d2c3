use Rattle.std.proofs.Common.{subst}
use Rattle.tenant_front.specs.Parts.{NoPart}
use Rattle.commands.proofs.Tenants.{all_faulty}
use Rattle.commands.proofs.turns.judge.Goals as goal

pub returns-in-Err-Wrong : goal.returns-in-Err-Wrong
returns-in-Err-Wrong c =
    let r = c.add-in-Err-Wrong in
    all_faulty r.result c.args.plan.now c.in-Err-Wrong.fault _ c.args.all.now r.new.all (subst (NoPart c.args.plan.now) c.in-Err-Wrong.field-0-is c.in-Err-Wrong.ensures) c.in-Err-Wrong.fault-is r.ensures.faults r.ensures.parts
