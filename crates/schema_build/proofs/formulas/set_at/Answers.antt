use Rattle.std.proofs.Common.{ap, ◌∙◌}
use Rattle.std.proofs.Math.ListN.{set}
use Rattle.schema_build.proofs.RuleSteps.{set_is}
use Rattle.schema_build.proofs.formulas.set_at.Goals as goal

pub returns : goal.returns
returns c =
    let objects = c.args.objects.now in
    let changed = set_is objects c.args.at c.index-objects-at.result c.args.rules.items c.requires c.index-objects-at.is in
    ap (λ o. set objects c.args.at o) c.set_rules.ensures ∙ rw (← c.index-objects-at.is) changed
