use Rattle.std.proofs.Common.{sym, ap, subst, ◌∙◌}
use Rattle.attempt_run.specs.Picks.{HasPassed, first_of_all}
use Rattle.attempt_run.proofs.Cursors.{passed_still}
use Rattle.attempt_run.proofs.Found.{first_unfinished}
use Rattle.attempt_run.proofs.Placing.{same_first, same_next}
use Rattle.attempt_run.proofs.Serving.{has_stage, out_end, out_first, out_more}
use Rattle.attempt_run.proofs.turns.run_out.Goals as goal

pub turns-init : goal.turns-init
turns-init c = (out_first c.args.plans.now c.args.all.now.items c.args.shard.now, c.requires.passed, same_first c.args.shard.now)

pub first_of_all-requires : goal.first_of_all-requires
first_of_all-requires c = subst (λ xs. HasPassed c.args.plans.now xs c.turns.cursor) (sym c.deref.ensures.value) c.turns.invariant.1

pub turn_of-requires-clause-placed : goal.turn_of-requires-clause-placed
turn_of-requires-clause-placed c = has_stage c.args.plans.now c.args.all.now.items c.turns.all.items c.args.shard.now c.turns.shard c.turns.invariant.0 c.requires.placed

pub turn_of-requires-clause-unfinished : goal.turn_of-requires-clause-unfinished
turn_of-requires-clause-unfinished c =
    first_unfinished c.in-Some.t c.in-Some.s c.args.plans.now c.turns.all.items (sym (c.first_of_all.ensures.first ∙ ap (λ xs. first_of_all 0 c.args.plans.now xs) c.deref.ensures.value) ∙ c.in-Some.is)

pub returns-in-None : goal.returns-in-None
returns-in-None c = record {
  ran =
      out_end c.args.plans.now c.args.all.now.items c.turns.all.items c.args.shard.now c.turns.shard c.turns.invariant.0 (sym (c.first_of_all.ensures.first ∙ ap (λ xs. first_of_all 0 c.args.plans.now xs) c.deref.ensures.value) ∙ c.in-None.is);
  same = c.turns.invariant.2;
}

pub turns-preserved : goal.turns-preserved
turns-preserved c =
    let first = sym (c.first_of_all.ensures.first ∙ ap (λ xs. first_of_all 0 c.args.plans.now xs) c.deref.ensures.value) ∙ c.in-Some.is in
    let passed = subst (λ xs. HasPassed c.args.plans.now xs c.first_of_all.new.cursor) c.deref.ensures.value c.first_of_all.ensures.passed in (
      out_more c.args.plans.now c.args.all.now.items c.turns.all.items c.turn_of.new.all.items c.args.shard.now c.turns.shard c.turn_of.new.shard (c.in-Some.t, c.in-Some.s) c.turns.invariant.0 first c.in_ok-turn_of-in-Some.ensures.turns,
      passed_still c.args.plans.now c.turns.all.items c.turn_of.new.all.items c.first_of_all.new.cursor c.in-Some.t c.in-Some.s passed (first_unfinished c.in-Some.t c.in-Some.s c.args.plans.now c.turns.all.items first) c.in_ok-turn_of-in-Some.ensures.others,
      same_next c.args.shard.now c.turns.shard c.turn_of.new.shard c.turns.invariant.2 c.in_ok-turn_of-in-Some.ensures.same,
    )
