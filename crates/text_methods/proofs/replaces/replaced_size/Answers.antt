use Rattle.std.proofs.Common.{arith, ap, ◌∙◌, length, ◌*◌, ◌+◌, ◌-◌, ◌≡◌}
use Rattle.std.specs.Str.{chars, encode_utf8_all}
use Rattle.text_methods.specs.Texts as spec
use Rattle.text_methods.proofs.Counts.{text_size, capped_of}
use Rattle.text_methods.proofs.replaces.replaced_size.Goals as goal

pub overflow_sub-size : goal.overflow_sub-size
overflow_sub-size c =
    let e = text_size c.args.text.now c.args.of.now c.args.with.now c.utf8.text c.utf8.of c.utf8.with in
    let p = ap (λ k. k * length c.args.of.now) c.count_matches-count.ensures.value in
    let q = ap (λ k. k * length c.args.with.now) c.count_matches-count.ensures.value in
    omega arith

pub returns : goal.returns
returns c =
    let e = text_size c.args.text.now c.args.of.now c.args.with.now c.utf8.text c.utf8.of c.utf8.with in
    let p = ap (λ k. k * length c.args.of.now) c.count_matches-count.ensures.value in
    let q = ap (λ k. k * length c.args.with.now) c.count_matches-count.ensures.value in
    let n : (length c.args.text.now + c.count_matches-count.result * length c.args.with.now) - c.count_matches-count.result * length c.args.of.now
    ≡ length (encode_utf8_all (spec.replace (chars c.args.of.now) (chars c.args.with.now) (chars c.args.text.now))) = omega arith in
    c.unwrap_or.ensures ∙ capped_of c.try_from.result _ c.try_from.ensures ∙ ap spec.capped n
