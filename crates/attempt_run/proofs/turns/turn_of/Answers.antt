use Rattle.std.proofs.Common.{sym, ap, ◌∙◌, Some}
use Rattle.std.proofs.lemmas.Option.{get_or_from_slice_get}
use Rattle.attempt_run.proofs.Found.{both, never_none, plan_there, read_plan}
use Rattle.attempt_run.proofs.Placing.{others_stay, same_parts, there_in, unfinished_still, with_plan}
use Rattle.attempt_run.proofs.turns.turn_of.Goals as goal

pub turn_in-requires-clause-plan : goal.turn_in-requires-clause-plan
turn_in-requires-clause-plan c =
    let b = both c.args.plans.now c.args.all.now.items c.args.t c.args.s c.requires.unfinished in
    let same = read_plan c.args.plans.now c.args.t b.plan c.in-Some.plan c.index-plans-t.result b.is_plan c.index-plans-t.is c.in-Some.is in
    plan_there c.args.plans.now c.args.t c.in-Some.plan c.requires.plans (b.is_plan ∙ ap (λ p. Some (Some p)) same)

pub turn_in-requires-clause-placed : goal.turn_in-requires-clause-placed
turn_in-requires-clause-placed c =
    let b = both c.args.plans.now c.args.all.now.items c.args.t c.args.s c.requires.unfinished in
    let same = read_plan c.args.plans.now c.args.t b.plan c.in-Some.plan c.index-plans-t.result b.is_plan c.index-plans-t.is c.in-Some.is in
    let taken = c.replace-standings.ensures.value ∙ c.index_mut.ensures.value ∙ get_or_from_slice_get c.args.all.now.items c.args.t b.standings c.index_mut.result.now b.are in
    there_in c.args.plans.now c.args.all.now.items c.in-Some.plan c.args.t c.replace-standings.result c.args.shard.now (b.is_plan ∙ ap (λ p. Some (Some p)) same) (b.are ∙ ap Some (sym taken)) c.requires.placed

pub turn_in-requires-clause-unfinished : goal.turn_in-requires-clause-unfinished
turn_in-requires-clause-unfinished c =
    let b = both c.args.plans.now c.args.all.now.items c.args.t c.args.s c.requires.unfinished in
    let same = read_plan c.args.plans.now c.args.t b.plan c.in-Some.plan c.index-plans-t.result b.is_plan c.index-plans-t.is c.in-Some.is in
    let taken = c.replace-standings.ensures.value ∙ c.index_mut.ensures.value ∙ get_or_from_slice_get c.args.all.now.items c.args.t b.standings c.index_mut.result.now b.are in
    unfinished_still b.plan c.in-Some.plan b.standings c.replace-standings.result c.args.s same (sym taken) b.unfinished

pub unreachable-requires : goal.unreachable-requires
unreachable-requires c =
    let b = both c.args.plans.now c.args.all.now.items c.args.t c.args.s c.requires.unfinished in
    never_none c.args.plans.now c.args.t b.plan c.index-plans-t.result b.is_plan c.index-plans-t.is c.in-None.is

pub returns : goal.returns
returns c =
    let b = both c.args.plans.now c.args.all.now.items c.args.t c.args.s c.requires.unfinished in
    let same = read_plan c.args.plans.now c.args.t b.plan c.in-Some.plan c.index-plans-t.result b.is_plan c.index-plans-t.is c.in-Some.is in
    let taken = c.replace-standings.ensures.value ∙ c.index_mut.ensures.value ∙ get_or_from_slice_get c.args.all.now.items c.args.t b.standings c.index_mut.result.now b.are in
    record {
      turns =
          with_plan c.args.plans.now c.args.all.now.items c.in-Some.plan c.args.t c.args.s c.replace-standings.result c.in_ok-later-in-Some.later c.replace-standings.new.dest c.args.shard.now c.turn_in.new.shard (b.is_plan ∙ ap (λ p. Some (Some p)) same) (b.are ∙ ap Some (sym taken)) c.in_ok-later-in-Some.ensures;
      others =
          others_stay c.args.plans.now c.args.all.now.items c.in-Some.plan c.args.t c.args.s c.replace-standings.result c.in_ok-later-in-Some.later c.replace-standings.new.dest c.args.shard.now c.turn_in.new.shard (b.are ∙ ap Some (sym taken)) c.in_ok-later-in-Some.ensures;
      same = same_parts c.args.t c.args.shard.now c.turn_in.new.shard c.in_ok-later-in-Some.ensures.beside.keeps;
    }
