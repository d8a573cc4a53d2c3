use Rattle.std.proofs.Common.{◌+◌, ◌∙◌, ap, refl}
use Rattle.apex_lexer.specs.Lexemes.{front, goes_on}
use Rattle.apex_lexer.proofs.Firsts.{stray_longest}
use Rattle.apex_lexer.proofs.scan.stray.Goals as goal

pub returns : goal.returns
returns c =
    stray_longest c.args.text.now _ c.requires.some c.requires.first (ap (λ n. 1 + n) (c.run_length-size.ensures.length ∙ ap (front goes_on) c.split_at.ensures.back)) refl
