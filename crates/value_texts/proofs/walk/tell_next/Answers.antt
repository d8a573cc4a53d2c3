use Rattle.std.proofs.Common.{◌<◌, ◌+◌, ◌++◌, suc, [], eqb, arith, length, Some}
use Rattle.std.specs.Prelude.{slice_index_or}
use Rattle.value_texts.specs.Pieces.{comma, item_texts, rest_of, seen_at, pends}
use Rattle.value_texts.proofs.Items.{rest_next}
use Rattle.value_texts.proofs.Opened.{next_opens, opens_stopped}
use Rattle.value_texts.proofs.walk.tell_next.Goals as goal

pub returns-in_err-push_comma-clause-text : goal.returns-in_err-push_comma-clause-text
returns-in_err-push_comma-clause-text c =
    let text = seen_at c.args.scene.now (suc (length c.args.stack.now)) in
    let n = c.count.ensures text in
    let f = c.if-rest-count.false in
    let lt : c.args.rest.next < length (item_texts text c.args.thing.now) = omega arith in
    opens_stopped (pends c.args.scene.now) (comma (eqb c.args.rest.next 0)) (slice_index_or (item_texts text c.args.thing.now) c.args.rest.next [] ++ rest_of text (c.args.rest.next + 1) (Some c.args.thing.now)) _ c.args.line.now
    c.push_comma.new.line c.args.stack.now c.args.stack.now _ _ c.from_residual.ensures c.in_err-push_comma.ensures (rest_next text c.args.rest.next c.args.thing.now lt)

pub returns-clause-text : goal.returns-clause-text
returns-clause-text c =
    let text = seen_at c.args.scene.now (suc (length c.args.stack.now)) in
    let n = c.count.ensures text in
    let f = c.if-rest-count.false in
    let lt : c.args.rest.next < length (item_texts text c.args.thing.now) = omega arith in
    next_opens c.args.scene.now c.args.rest.place c.args.rest.next c.args.thing.now c.args.line.now c.push_comma.new.line c.tell_item.new.line c.args.stack.now c.push-2.new.self c.tell_item.new.stack c.tell_item.result c.requires.there lt
    c.in_ok-push.ensures.ok c.in_ok-push_comma.ensures c.tell_item.ensures.0
