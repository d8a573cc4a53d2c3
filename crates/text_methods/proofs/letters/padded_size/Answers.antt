use Rattle.std.proofs.Common.{arith, w64, ◌∙◌, ap, ◌≡◌, ◌+◌, ◌-◌, length}
use Rattle.std.specs.Str.{chars}
use Rattle.std.proofs.lemmas.Int.{to_z-of_z}
use Rattle.text_methods.specs.Texts.{capped, place, left_pad, right_pad}
use Rattle.text_methods.proofs.Walks.{left_size, right_size}
use Rattle.text_methods.proofs.letters.padded_size.Goals as goal

pub returns-clause-left : goal.returns-clause-left
returns-clause-left c =
    let m = c.missing.ensures ∙ ap (λ n. place n - length (chars c.args.text.now)) (to_z-of_z w64 c.args.n c.ranges.n) in
    let e : length c.args.text.now + c.missing.result ≡ length (left_pad c.args.n c.args.text.now) = let s = left_size c.args.n c.args.text.now in omega arith in
    c.saturating_add.ensures ∙ ap capped e

pub returns-clause-right : goal.returns-clause-right
returns-clause-right c =
    let m = c.missing.ensures ∙ ap (λ n. place n - length (chars c.args.text.now)) (to_z-of_z w64 c.args.n c.ranges.n) in
    let e : length c.args.text.now + c.missing.result ≡ length (right_pad c.args.n c.args.text.now) = let s = right_size c.args.n c.args.text.now in omega arith in
    c.saturating_add.ensures ∙ ap capped e
