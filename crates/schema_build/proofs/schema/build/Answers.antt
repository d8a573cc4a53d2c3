use Rattle.std.proofs.Common.{rules}
use Rattle.schema_build.proofs.RuleSteps.{built_valid}
use Rattle.schema_build.proofs.schema.build.Goals as goal

pub returns-in-Ok-Ok-clause-valid : goal.returns-in-Ok-Ok-clause-valid
returns-in-Ok-Ok-clause-valid c = built_valid c.args.plan.now c.in-Ok-Ok.schema c.requires (search rules)
