use Rattle.std.proofs.Common.{◌∙◌, sym}
use Rattle.apex_lexer.specs.Lexemes.{word}
use Rattle.apex_lexer.proofs.Firsts.{of_class, word_class}
use Rattle.apex_lexer.proofs.scan.first_piece.Goals as goal

pub returns-then-begins_with : goal.returns-then-begins_with
returns-then-begins_with c =
    of_class word c.args.text.now _ (word_class c.args.text.now (sym c.begins_with.ensures ∙ c.if-begins_with.true)) c.word.ensures
