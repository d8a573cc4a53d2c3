use Rattle.std.proofs.Common.{◌≡◌, true, refl, subst, sym}
use Rattle.apex_lexer.specs.declared.table.KeywordRow.{KeywordRow}
use Rattle.apex_lexer.specs.Words.{keyword_words}
use Rattle.apex_lexer.proofs.Rows.{rises, rising}
use Rattle.apex_lexer.proofs.words.keyword_table.Goals as goal

rise : rises keyword_words ≡ true
unfolding keyword_words
rise = refl

pub unreachable-requires : goal.unreachable-requires
unreachable-requires c =
    c.in-None.ensures (rising (λ (row : KeywordRow). row.word.now) (λ row. row.keyword) c.args.rows.now (subst (λ l. rises l ≡ true) (sym c.requires) rise))
