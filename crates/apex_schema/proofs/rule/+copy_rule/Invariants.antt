use Rattle.std.proofs.Common.{◌≡◌, take}
use Rattle.apex_schema.proofs.rule.+copy_rule.Given as goal

abbrev pub invariant-copy_each-loop-rule : goal.invariant-copy_each-loop-rule
invariant-copy_each-loop-rule l = l.done ≡ take l.rule-index l.list
