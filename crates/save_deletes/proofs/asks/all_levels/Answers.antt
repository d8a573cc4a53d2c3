use Rattle.std.proofs.Common.{◌≡◌, ◌+◌, ◌-◌, true, false, not, List, subst, ◌∙◌, arith, rules}
use Rattle.apex_rows.specs.declared.row.Row.{Row}
use Rattle.save_statements.specs.declared.pending.Naming.{Naming}
use Rattle.save_statements.specs.Records.{going, rows_of}
use Rattle.answer_replay.specs.Playing.{Plays}
use Rattle.save_deletes.specs.Downward.{next_level}
use Rattle.save_deletes.specs.Heads.{AreHeads}
use Rattle.save_deletes.proofs.Sets.{some_is}
use Rattle.save_deletes.proofs.Down.{at_the_bottom, at_the_end, from_the_top, level_found, level_wants}
use Rattle.save_deletes.proofs.asks.all_levels.Goals as goal

pub loop-i-init : goal.loop-i-init
loop-i-init c =
    from_the_top c.args.schema.now c.args.ticket c.args.overlay.now (rows_of (going c.args.records.now)) c.args.answers.now c.is_one_going-more.result c.in_ok-heads.heads c.new-all.result
    c.in_ok-heads.ensures c.is_one_going-more.ensures c.new-all.ensures

pub returns-then-not-more : goal.returns-then-not-more
returns-then-not-more c =
    let none : c.loop-i.more ≡ false = search (rules) in
    at_the_end c.args.schema.now c.args.ticket c.args.overlay.now (rows_of (going c.args.records.now)) c.args.answers.now (3 - c.loop-i.i) c.loop-i.more c.loop-i.heads c.loop-i.all c.loop-i.answers c.loop-i.invariant none

pub returns-in-Wants : goal.returns-in-Wants
returns-in-Wants c =
    let some : c.loop-i.more ≡ true = search (rules) in
    level_wants c.args.schema.now c.args.ticket c.args.overlay.now (rows_of (going c.args.records.now)) c.args.answers.now (3 - c.loop-i.i) c.loop-i.more c.loop-i.heads c.loop-i.all c.loop-i.answers c.loop-i.invariant some (3 - (c.loop-i.i + 1)) (omega arith) c.in_ok-question.field-0 c.next_level.new.answers
    (λ rows heads.
    subst (λ (ns : List Naming). Plays (next_level c.args.ticket c.args.overlay.now ns rows) c.loop-i.answers c.in_ok-question.field-0 c.next_level.new.answers) (c.as_slice.ensures ∙ c.in_ok-masters.ensures)
    (c.in_ok-question.ensures rows heads))
    c.in-Wants.question c.in-Wants.is

pub loop-i-preserved : goal.loop-i-preserved
loop-i-preserved c =
    let some : c.loop-i.more ≡ true = search (rules) in
    level_found c.args.schema.now c.args.ticket c.args.overlay.now (rows_of (going c.args.records.now)) c.args.answers.now (3 - c.loop-i.i) c.loop-i.more c.loop-i.heads c.loop-i.all c.loop-i.answers c.loop-i.invariant some (3 - (c.loop-i.i + 1)) (omega arith) c.in_ok-question.field-0 c.next_level.new.answers
    (λ rows heads.
    subst (λ (ns : List Naming). Plays (next_level c.args.ticket c.args.overlay.now ns rows) c.loop-i.answers c.in_ok-question.field-0 c.next_level.new.answers) (c.as_slice.ensures ∙ c.in_ok-masters.ensures)
    (c.in_ok-question.ensures rows heads))
    c.in-Found.rows (not c.is_empty-more.result) c.in_ok-heads-2.heads c.push.new.self c.in-Found.is (subst (λ (rows : List Row). AreHeads rows c.in_ok-heads-2.heads) c.as_slice-in-loop-i.ensures c.in_ok-heads-2.ensures)
    (some_is c.in-Found.rows c.is_empty-more.result c.is_empty-more.ensures) c.in_ok-push.ensures.ok

pub returns : goal.returns
returns c = at_the_bottom c.args.schema.now c.args.ticket c.args.overlay.now (rows_of (going c.args.records.now)) c.args.answers.now (3 - c.loop-i.i) c.loop-i.more c.loop-i.heads c.loop-i.all c.loop-i.answers c.loop-i.invariant (omega arith)
