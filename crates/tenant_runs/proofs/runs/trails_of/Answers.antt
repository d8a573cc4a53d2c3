use Rattle.std.proofs.Common.{length, refl}
use Rattle.tenant_runs.specs.Tenants.{tenants_of}
use Rattle.tenant_runs.proofs.Ends.{all_ran}
use Rattle.tenant_runs.proofs.Plans.{begins}
use Rattle.tenant_runs.proofs.runs.trails_of.Goals as goal

pub run_turns-requires-clause-begins : goal.run_turns-requires-clause-begins
run_turns-requires-clause-begins c =
    let shard = c.in_ok-shard.ensures in
    (tenants_of c.args.parts, begins c.args.parts c.args.plans.now c.in_ok-shard.shard c.requires.planned shard.opened shard.locks shard.entries)

pub returns : goal.returns
returns c =
    let shard = c.in_ok-shard.ensures in
    let ran = c.in_ok-run_turns.ensures in
    all_ran c.dealt.result c.args.parts c.args.plans.now c.args.turns.now c.in_ok-shard.shard c.run_turns.new.shard _ (length c.args.plans.now) c.laws_of_turns.ensures.turned c.requires.planned shard.opened shard.order ran.same
    (ran.served (tenants_of c.args.parts) (begins c.args.parts c.args.plans.now c.in_ok-shard.shard c.requires.planned shard.opened shard.locks shard.entries)) c.in_ok-finish.ensures refl c.dealt.ensures
