use Rattle.std.proofs.Common.{w64, ◌∙◌, ap, sym, ◌*◌, length, mul_comm}
use Rattle.std.proofs.lemmas.Int.{to_z-of_z}
use Rattle.text_methods.specs.Texts.{capped, place}
use Rattle.text_methods.proofs.Walks.{repeat_length}
use Rattle.text_methods.proofs.letters.repeated_size.Goals as goal

pub returns : goal.returns
returns c =
    let p = c.place.ensures ∙ ap place (to_z-of_z w64 c.args.n c.ranges.n) in
    c.saturating_mul.ensures ∙ ap capped (ap (λ k. length c.args.text.now * k) p ∙ mul_comm (length c.args.text.now) (place c.args.n) ∙ sym (repeat_length (place c.args.n) c.args.text.now))
