use Rattle.std.proofs.Common.{subst, sym}
use Rattle.std.proofs.lemmas.List.Elements.{All-get_or}
use Rattle.bundle_read.specs.Laws.{IsBounded}
use Rattle.commands.specs.Turns.{JudgesNext}
use Rattle.commands.proofs.Tenants.{judged_next}
use Rattle.commands.proofs.turns.all_judged.Goals as goal

pub judge-requires : goal.judge-requires
judge-requires c = subst IsBounded (sym c.plan-item.is) (All-get_or IsBounded c.args.tenants.now c.tenants.plan-index c.plan-item.result c.tenants-test.true c.requires)

pub tenants-preserved : goal.tenants-preserved
tenants-preserved c =
    judged_next c.args.tenants.now c.tenants.plan-index c.plan-item.result c.tenants.all c.judge.new.all c.tenants-test.true c.tenants.invariant
    (subst (λ p. JudgesNext p c.tenants.all c.judge.new.all) c.plan-item.is c.in_ok-judge.ensures)
