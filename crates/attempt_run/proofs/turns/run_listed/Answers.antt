use Rattle.std.proofs.Common.{subst, ◌+◌, map, drop, get_or}
use Rattle.attempt_run.specs.Picks.{pick_of}
use Rattle.attempt_run.specs.Stages.{TurnsListed}
use Rattle.attempt_run.proofs.Cursors.{passed_first}
use Rattle.attempt_run.proofs.Listing.{all_listed, next_listed}
use Rattle.attempt_run.proofs.Placing.{same_first, same_next, same_on}
use Rattle.attempt_run.proofs.Serving.{IsListed, has_listed, listed_first, listed_more, listed_none}
use Rattle.attempt_run.proofs.turns.run_listed.Goals as goal

pub listed-init : goal.listed-init
listed-init c = (listed_first c.args.plans.now (map pick_of c.args.turns.now) c.args.all.now.items c.args.shard.now, passed_first c.args.plans.now c.args.all.now.items, same_first c.args.shard.now)

pub turn_listed-requires-clause-placed : goal.turn_listed-requires-clause-placed
turn_listed-requires-clause-placed c =
    has_listed c.args.plans.now (map pick_of c.args.turns.now) (map pick_of (drop c.listed.listed-index c.args.turns.now)) c.args.all.now.items c.listed.all.items c.args.shard.now c.listed.shard c.listed.invariant.0 c.requires.placed

pub turn_listed-requires-clause-passed : goal.turn_listed-requires-clause-passed
turn_listed-requires-clause-passed c = c.listed.invariant.1

pub returns-then-not-branch : goal.returns-then-not-branch
returns-then-not-branch c = record {
  serves =
      listed_none c.args.plans.now (map pick_of c.args.turns.now) (map pick_of (drop (c.listed.listed-index + 1) c.args.turns.now)) (pick_of (get_or c.args.turns.now c.listed.listed-index (record { tenant = 0; session = 0 }))) c.args.all.now.items c.listed.all.items c.turn_listed.new.all.items c.args.shard.now c.listed.shard c.turn_listed.new.shard
      (subst (λ rest. IsListed c.args.plans.now (map pick_of c.args.turns.now) rest c.args.all.now.items c.args.shard.now c.listed.all.items c.listed.shard) (next_listed c.listed.listed-index c.args.turns.now (record { tenant = 0; session = 0 }) c.listed-test.true) c.listed.invariant.0)
      (subst (λ b. TurnsListed c.args.plans.now (pick_of (get_or c.args.turns.now c.listed.listed-index (record { tenant = 0; session = 0 }))) c.listed.all.items c.listed.shard c.turn_listed.new.all.items c.turn_listed.new.shard b) c.if-not-branch.true c.in_ok-turn_listed.ensures.listed);
  same = same_next c.args.shard.now c.listed.shard c.turn_listed.new.shard c.listed.invariant.2 c.in_ok-turn_listed.ensures.same;
}

pub listed-preserved : goal.listed-preserved
listed-preserved c = (
  listed_more c.args.plans.now (map pick_of c.args.turns.now) (map pick_of (drop (c.listed.listed-index + 1) c.args.turns.now)) (pick_of (get_or c.args.turns.now c.listed.listed-index (record { tenant = 0; session = 0 }))) c.args.all.now.items c.listed.all.items c.turn_listed.new.all.items c.args.shard.now c.listed.shard c.turn_listed.new.shard
      (subst (λ rest. IsListed c.args.plans.now (map pick_of c.args.turns.now) rest c.args.all.now.items c.args.shard.now c.listed.all.items c.listed.shard) (next_listed c.listed.listed-index c.args.turns.now (record { tenant = 0; session = 0 }) c.listed-test.true) c.listed.invariant.0)
      (subst (λ b. TurnsListed c.args.plans.now (pick_of (get_or c.args.turns.now c.listed.listed-index (record { tenant = 0; session = 0 }))) c.listed.all.items c.listed.shard c.turn_listed.new.all.items c.turn_listed.new.shard b) c.if-not-branch.false c.in_ok-turn_listed.ensures.listed),
  c.in_ok-turn_listed.ensures.passed,
  same_next c.args.shard.now c.listed.shard c.turn_listed.new.shard c.listed.invariant.2 c.in_ok-turn_listed.ensures.same,
)

pub run_out-requires-clause-placed : goal.run_out-requires-clause-placed
run_out-requires-clause-placed c =
    has_listed c.args.plans.now (map pick_of c.args.turns.now) (map pick_of (drop c.listed.listed-index c.args.turns.now)) c.args.all.now.items c.listed.all.items c.args.shard.now c.listed.shard c.listed.invariant.0 c.requires.placed

pub run_out-requires-clause-passed : goal.run_out-requires-clause-passed
run_out-requires-clause-passed c = c.listed.invariant.1

pub returns : goal.returns
returns c = record {
  serves =
      all_listed c.run_out.result c.args.plans.now (map pick_of c.args.turns.now) c.args.all.now.items c.listed.all.items c.run_out.new.all.items c.args.shard.now c.listed.shard c.run_out.new.shard
      c.listed.listed-index c.args.turns.now c.listed.auto.listed-index-end c.listed-test.false c.listed.invariant.0 c.run_out.ensures.ran;
  same = same_on c.run_out.result c.args.shard.now c.listed.shard c.run_out.new.shard c.listed.invariant.2 c.run_out.ensures.same;
}
