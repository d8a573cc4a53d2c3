use Rattle.std.proofs.Common.{◌≡◌, Some, string_bytes, true, false, sym, ap, ◌∙◌}
use Rattle.serde_json.specs.View.{members_view}
use Rattle.bundle_read.specs.Readings.{unknown_key, texts, has}
use Rattle.bundle_read.proofs.Items.{Entry, unknown_here, unknown_later, has_texts}
use Rattle.bundle_read.proofs.lists.unknown_key.Goals as goal

pub returns-then-not-is_among : goal.returns-then-not-is_among
returns-then-not-is_among c =
    let keys = texts c.args.keys.now in
    let e : Entry = (c.in-Some.key.now, c.in-Some._value.now) in
    let here = c.loop-key.invariant ∙ ap (λ es. unknown_key keys (members_view es)) c.in-Some.ensures.steps in
    let same : c.as_str.result.now ≡ string_bytes e.0 = c.as_str.ensures.value in
    let none : has keys (string_bytes e.0) ≡ false = ap (has keys) (sym same) ∙ sym (has_texts c.args.keys.now c.as_str.result.now) ∙ sym c.is_among.ensures ∙ c.if-not-is_among.true in
    ap Some c.as_str-then-not-is_among.ensures.value ∙ sym (here ∙ unknown_here keys e _ none)

pub loop-key-preserved : goal.loop-key-preserved
loop-key-preserved c =
    let keys = texts c.args.keys.now in
    let e : Entry = (c.in-Some.key.now, c.in-Some._value.now) in
    let here = c.loop-key.invariant ∙ ap (λ es. unknown_key keys (members_view es)) c.in-Some.ensures.steps in
    let same : c.as_str.result.now ≡ string_bytes e.0 = c.as_str.ensures.value in
    let some : has keys (string_bytes e.0) ≡ true = ap (has keys) (sym same) ∙ sym (has_texts c.args.keys.now c.as_str.result.now) ∙ sym c.is_among.ensures ∙ c.if-not-is_among.false in
    here ∙ unknown_later keys e _ some
