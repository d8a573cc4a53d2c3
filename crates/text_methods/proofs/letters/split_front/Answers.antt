use Rattle.std.proofs.Common.{◌≡◌, ◌∙◌, ◌++◌, ap, sym}
use Rattle.std.specs.Char.{encode_utf8}
use Rattle.std.proofs.lemmas.Str.{chars_past_char}
use Rattle.text_methods.proofs.letters.split_front.Goals as goal

pub returns-in-Some : goal.returns-in-Some
returns-in-Some c =
    let e : c.args.text.now ≡ encode_utf8 c.in-Some.c ++ c.as_str.result.now = sym c.chars-chars.ensures.rest ∙ c.in-Some.ensures.steps.0 ∙ ap (λ x. encode_utf8 c.in-Some.c ++ x) (sym c.as_str.ensures) in
    (e, chars_past_char c.args.text.now c.as_str.result.now c.in-Some.c c.utf8.text e)
