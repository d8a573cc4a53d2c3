use Rattle.std.proofs.Common.{Some, None, ap, sym, ◌∙◌}
use Rattle.apex_lexer.specs.declared.table.KeywordRow.{KeywordRow}
use Rattle.apex_lexer.specs.Words.{value_of}
use Rattle.apex_lexer.proofs.Rows.{answer}
use Rattle.apex_lexer.proofs.words.keyword_in.Goals as goal

pub returns-in-Some : goal.returns-in-Some
returns-in-Some c =
    sym (ap (λ l. value_of l c.args.folded.now) (sym c.requires) ∙ answer (λ (row : KeywordRow). row.word.now) (λ row. row.keyword) c.args.words.now.rows.now c.args.folded.now (Some c.in-Some.row) c.in-Some.ensures.found c.in-Some.ensures.only tt)

pub returns-in-None : goal.returns-in-None
returns-in-None c =
    sym (ap (λ l. value_of l c.args.folded.now) (sym c.requires) ∙ answer (λ (row : KeywordRow). row.word.now) (λ row. row.keyword) c.args.words.now.rows.now c.args.folded.now None tt tt c.in-None.ensures.none)
