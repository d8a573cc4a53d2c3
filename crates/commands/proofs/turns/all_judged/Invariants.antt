use Rattle.std.proofs.Common.{take}
use Rattle.commands.specs.Turns.{AreJudged}
use Rattle.commands.proofs.turns.all_judged.Given as goal

abbrev pub invariant-tenants : goal.invariant-tenants
invariant-tenants l = AreJudged (take l.plan-index l.tenants) l.all.faults l.all.parts
