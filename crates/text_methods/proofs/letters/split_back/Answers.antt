use Rattle.std.proofs.Common.{◌≡◌, ◌∙◌, ◌++◌, ap, sym}
use Rattle.std.specs.Char.{encode_utf8}
use Rattle.text_methods.proofs.Walks.{last_one}
use Rattle.text_methods.proofs.letters.split_back.Goals as goal

pub returns-in-Some : goal.returns-in-Some
returns-in-Some c =
    let e : c.args.text.now ≡ c.as_str.result.now ++ encode_utf8 c.in-Some.c = sym c.chars-chars.ensures.rest ∙ c.in-Some.ensures.steps ∙ ap (λ x. x ++ encode_utf8 c.in-Some.c) (sym c.as_str.ensures) in
    (e, last_one c.args.text.now c.as_str.result.now c.in-Some.c c.utf8.text c.as_str.utf8 e)
