use Rattle.std.proofs.Common.{sym, subst}
use Rattle.legal_trails.specs.Served.{first_stage}
use Rattle.attempt_run.specs.Stages.{ArePlaced}
use Rattle.attempt_run.proofs.Beginning.{all_served, begins}
use Rattle.attempt_run.proofs.turns.run_turns.Goals as goal

pub run_listed-requires-clause-placed : goal.run_listed-requires-clause-placed
run_listed-requires-clause-placed c = (
  first_stage c.requires.begins.0,
  subst (λ all. ArePlaced 0 c.args.plans.now all c.args.shard.now (first_stage c.requires.begins.0)) (sym c.in_ok-all.ensures) (begins c.args.plans.now c.args.shard.now c.requires.begins.0 c.requires.begins.1),
)

pub returns : goal.returns
returns c = record {
  served = all_served c.run_listed.result c.args.plans.now _ c.in_ok-all.all.items c.run_listed.new.all.items c.args.shard.now c.run_listed.new.shard c.in_ok-all.ensures c.run_listed.ensures.serves;
  same = c.run_listed.ensures.same;
}
