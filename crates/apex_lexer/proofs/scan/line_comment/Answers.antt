use Rattle.std.proofs.Common.{◌+◌, ◌∙◌, ap, refl}
use Rattle.apex_lexer.specs.Lexemes.{front, is_on_line}
use Rattle.apex_lexer.proofs.Literals.{line_longest, second_long}
use Rattle.apex_lexer.proofs.scan.line_comment.Goals as goal

pub returns : goal.returns
returns c =
    line_longest c.args.text.now _ (second_long _ c.args.text.now c.requires) c.requires
    (ap (λ n. 2 + n) (c.run_length.ensures.length ∙ ap (front is_on_line) c.split_at.ensures.back)) refl
