use Rattle.std.proofs.Common.{Some, None, ap, sym, ◌∙◌}
use Rattle.apex_lexer.specs.declared.table.SignRow.{SignRow}
use Rattle.apex_lexer.specs.Words.{value_of}
use Rattle.apex_lexer.proofs.Rows.{answer}
use Rattle.apex_lexer.proofs.words.sign_of.Goals as goal

pub returns-in-Some : goal.returns-in-Some
returns-in-Some c =
    sym (ap (λ l. value_of l c.args.text.now) (sym c.requires) ∙ answer (λ (row : SignRow). row.text.now) (λ row. row.sign) c.args.signs.now.rows.now c.args.text.now (Some c.in-Some.row) c.in-Some.ensures.found c.in-Some.ensures.only tt)

pub returns-in-None : goal.returns-in-None
returns-in-None c =
    sym (ap (λ l. value_of l c.args.text.now) (sym c.requires) ∙ answer (λ (row : SignRow). row.text.now) (λ row. row.sign) c.args.signs.now.rows.now c.args.text.now None tt tt c.in-None.ensures.none)
