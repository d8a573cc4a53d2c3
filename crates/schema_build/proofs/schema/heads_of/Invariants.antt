use Rattle.std.proofs.Common.{◌≡◌, take, map}
use Rattle.schema_plans.specs.Schemas as made
use Rattle.schema_build.proofs.schema.heads_of.Given as goal

abbrev pub invariant-loop-rule : goal.invariant-loop-rule
invariant-loop-rule l = l.all ≡ map made.head_of (take l.rule-index l.object.rules)
