use Rattle.std.proofs.Common.{refl, sym, ap, subst, ◌∙◌}
use Rattle.attempt_run.specs.Picks.{HasPassed, pick_of, picked_by}
use Rattle.attempt_run.proofs.Cursors.{passed_still}
use Rattle.attempt_run.proofs.Found.{picked_unfinished}
use Rattle.attempt_run.proofs.Placing.{same_first}
use Rattle.attempt_run.proofs.turns.turn_listed.Goals as goal

pub picked-requires : goal.picked-requires
picked-requires c = subst (λ xs. HasPassed c.args.plans.now xs c.args.cursor.now) (sym c.deref.ensures.value) c.requires.passed

pub turn_of-requires-clause-unfinished : goal.turn_of-requires-clause-unfinished
turn_of-requires-clause-unfinished c =
    picked_unfinished c.in-Some.t c.in-Some.s (pick_of c.args.listed) c.args.plans.now c.args.all.now.items (sym (c.in-Some.ensures.picked ∙ ap (λ xs. picked_by c.args.plans.now xs (pick_of c.args.listed)) c.deref.ensures.value))

pub returns-in_ok-turn_of-in-Some : goal.returns-in_ok-turn_of-in-Some
returns-in_ok-turn_of-in-Some c =
    let picked = sym (c.in-Some.ensures.picked ∙ ap (λ xs. picked_by c.args.plans.now xs (pick_of c.args.listed)) c.deref.ensures.value) in
    let passed = subst (λ xs. HasPassed c.args.plans.now xs c.picked.new.cursor) c.deref.ensures.value c.in-Some.ensures.passed in
    record {
      listed = ((c.in-Some.t, c.in-Some.s), picked, c.in_ok-turn_of-in-Some.ensures.turns);
      passed =
          passed_still c.args.plans.now c.args.all.now.items c.turn_of.new.all.items c.picked.new.cursor c.in-Some.t c.in-Some.s passed (picked_unfinished c.in-Some.t c.in-Some.s (pick_of c.args.listed) c.args.plans.now c.args.all.now.items picked)
          c.in_ok-turn_of-in-Some.ensures.others;
      same = c.in_ok-turn_of-in-Some.ensures.same;
    }

pub returns-in-None : goal.returns-in-None
returns-in-None c = record {
  listed = (sym (c.in-None.ensures.picked ∙ ap (λ xs. picked_by c.args.plans.now xs (pick_of c.args.listed)) c.deref.ensures.value), refl, refl);
  passed = subst (λ xs. HasPassed c.args.plans.now xs c.picked.new.cursor) c.deref.ensures.value c.in-None.ensures.passed;
  same = same_first c.args.shard.now;
}
