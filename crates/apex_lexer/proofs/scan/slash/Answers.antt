use Rattle.std.proofs.Common.{◌∙◌, sym}
use Rattle.apex_lexer.proofs.Firsts.{slash_sign}
use Rattle.apex_lexer.proofs.scan.slash.Goals as goal

pub returns-else-second_is-2 : goal.returns-else-second_is-2
returns-else-second_is-2 c =
    slash_sign c.args.text.now c.sign.result c.requires.first (sym c.second_is.ensures ∙ c.if-second_is.false) (sym c.second_is-else-second_is.ensures ∙ c.if-second_is-2.false) c.sign.ensures
