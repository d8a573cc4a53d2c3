use Rattle.std.proofs.Common.{rules, ap, ◌∙◌, ◌++◌, string_bytes, encode_utf8_all, ◌≡◌}
use Rattle.std.specs.Str.{chars}
use Rattle.text_methods.specs.Texts as spec
use Rattle.text_methods.proofs.Walks.{some_chars}
use Rattle.text_methods.proofs.Counts.{replace_nothing, replace_done, replace_step, back_shorter}
use Rattle.text_methods.proofs.replaces.replace.Goals as goal

pub returns-then-is_empty : goal.returns-then-is_empty
returns-then-is_empty c = let e = replace_nothing c.args.text.now c.args.of.now (chars c.args.with.now) c.utf8.text (search rules) in search (rules, e)

pub loop-front-smaller : goal.loop-front-smaller
loop-front-smaller c =
    let some = some_chars c.args.of.now c.utf8.of (search rules) in
    back_shorter (chars c.args.of.now) (chars c.loop-front.rest.now) (chars c.in-Some.front.now) (chars c.in-Some.back.now) some c.in-Some.ensures.1

pub loop-front-preserved : goal.loop-front-preserved
loop-front-preserved c =
    let some = some_chars c.args.of.now c.utf8.of (search rules) in
    let more = spec.replace (chars c.args.of.now) (chars c.args.with.now) (chars c.in-Some.back.now) in
    let bytes : string_bytes c.push_str-in-Some.new.self ≡ (string_bytes c.loop-front.out ++ c.in-Some.front.now) ++ c.args.with.now = c.in_ok-push_str-2.ensures.bytes ∙ ap (λ x. x ++ c.args.with.now) c.in_ok-push_str.ensures.bytes in (
      search rules,
      ap (λ x. x ++ encode_utf8_all more) bytes
          ∙ replace_step (string_bytes c.loop-front.out) c.args.text.now c.args.of.now c.args.with.now c.loop-front.rest.now c.in-Some.front.now c.in-Some.back.now c.utf8.with (search rules) some c.in-Some.ensures.0 c.in-Some.ensures.1 c.loop-front.invariant.1,
    )

pub returns : goal.returns
returns c =
    let some = some_chars c.args.of.now c.utf8.of (search rules) in
    c.in_ok-push_str-3.ensures.bytes ∙ replace_done (string_bytes c.loop-front.out) c.args.text.now c.args.of.now (chars c.args.with.now) c.loop-front.rest.now c.loop-front.invariant.0 some c.in_default.ensures c.loop-front.invariant.1
