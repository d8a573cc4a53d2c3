use Rattle.attempt_run.proofs.Cursors.{first_there, no_plan, no_standings, none_there}
use Rattle.attempt_run.proofs.picks.first_there.Goals as goal
use Rattle.attempt_run.proofs.picks.first_there.Goals.{else-t-plans-via-then-t-plans+else-t-all, else-t-plans-via-else-t-plans}

pub first_in-requires : goal.first_in-requires
first_in-requires c =
    none_there c.args.plans.now c.args.all.now c.args.t c.index-plans-t.result c.index-all-t.result c.as_slice.result.now c.args.from c.if-t-plans.true c.if-t-all.true c.index-plans-t.is c.index-all-t.is c.as_slice.ensures c.requires

pub returns-then-t-all : goal.returns-then-t-all
returns-then-t-all c =
    first_there c.args.plans.now c.args.all.now c.args.t c.index-plans-t.result c.index-all-t.result c.as_slice.result.now c.first_in.result c.if-t-plans.true c.if-t-all.true c.index-plans-t.is c.index-all-t.is c.as_slice.ensures c.first_in.ensures

pub returns-else-t-plans : goal.returns-else-t-plans
returns-else-t-plans c = elim c.else-t-plans.branch [
  | else-t-plans-via-then-t-plans+else-t-all w ↦ no_standings c.args.plans.now c.args.all.now c.args.t w.if-t-all.false
  | else-t-plans-via-else-t-plans w ↦ no_plan c.args.plans.now c.args.all.now c.args.t w.if-t-plans.false
]
