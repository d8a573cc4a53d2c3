use Rattle.std.proofs.Common.{◌≡◌, ◌∙◌, ◌+◌, ap, sym, subst, arith, length, take, drop}
use Rattle.std.specs.Char.{is_ascii_digit}
use Rattle.std.proofs.lemmas.List.{length-take-le}
use Rattle.apex_lexer.specs.Lexemes.{front, number}
use Rattle.apex_lexer.specs.Scans.{Goes, IsLongest}
use Rattle.apex_lexer.proofs.Runs.{front_some}
use Rattle.apex_lexer.proofs.Numbers.{number_longest, part_digits}
use Rattle.apex_lexer.proofs.scan.number.Goals as goal

pub behind_digits-found-requires-clause-digits : goal.behind_digits-found-requires-clause-digits
behind_digits-found-requires-clause-digits c =
    part_digits c.args.text.now c.split_at.result.0.now (c.split_at.ensures.front ∙ ap (λ n. take n c.args.text.now) c.run_length.ensures.length)

pub behind_digits-found-requires-clause-some : goal.behind_digits-found-requires-clause-some
behind_digits-found-requires-clause-some c =
    let t = c.args.text.now in
    let size : length c.split_at.result.0.now ≡ front is_ascii_digit t = ap length c.split_at.ensures.front ∙ length-take-le c.run_length.result t c.run_length.ensures.within ∙ c.run_length.ensures.length in
    let some = front_some is_ascii_digit t c.requires in
    omega arith

pub returns : goal.returns
returns c =
    let t = c.args.text.now in
    let k = front is_ascii_digit t in
    let found = c.behind_digits-found.result in
    let whole : c.split_at.result.0.now ≡ take k t = c.split_at.ensures.front ∙ ap (λ n. take n t) c.run_length.ensures.length in
    let rest : c.split_at.result.1.now ≡ drop k t = c.split_at.ensures.back ∙ ap (λ n. drop n t) c.run_length.ensures.length in
    let size : length c.split_at.result.0.now ≡ k = ap length c.split_at.ensures.front ∙ length-take-le c.run_length.result t c.run_length.ensures.within ∙ c.run_length.ensures.length in
    subst (λ n. IsLongest number t (record { size = n + found.size; lexeme = found.lexeme })) (sym size)
    (number_longest t found.size found.lexeme c.requires
    (subst (λ w. Goes w (drop k t) found.size found.lexeme) whole (subst (λ r. Goes c.split_at.result.0.now r found.size found.lexeme) rest c.behind_digits-found.ensures)))
