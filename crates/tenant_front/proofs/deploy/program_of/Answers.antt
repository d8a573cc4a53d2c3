use Rattle.std.proofs.Common.{subst}
use Rattle.apex_types.specs.Checks.{Fails, checked}
use Rattle.tenant_front.proofs.Steps.{is_there}
use Rattle.tenant_front.proofs.deploy.program_of.Goals as goal

pub told-requires : goal.told-requires
told-requires c =
    let schema = c.args.schema.now in
    let units = c.args.units.now in
    let blocks = c.args.blocks.now in
    let fails = subst (Fails (checked schema.objects units blocks)) c.in-Err-Wrong.field-0-is c.in-Err-Wrong.ensures in
    is_there schema c.args.plans.now units blocks c.in-Err-Wrong.fault c.requires fails
