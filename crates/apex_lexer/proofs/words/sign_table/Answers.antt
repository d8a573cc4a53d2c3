use Rattle.std.proofs.Common.{◌≡◌, true, refl, subst, sym}
use Rattle.apex_lexer.specs.declared.table.SignRow.{SignRow}
use Rattle.apex_lexer.specs.Words.{sign_words}
use Rattle.apex_lexer.proofs.Rows.{rises, rising}
use Rattle.apex_lexer.proofs.words.sign_table.Goals as goal

rise : rises sign_words ≡ true
unfolding sign_words
rise = refl

pub unreachable-requires : goal.unreachable-requires
unreachable-requires c =
    c.in-None.ensures (rising (λ (row : SignRow). row.text.now) (λ row. row.sign) c.args.rows.now (subst (λ l. rises l ≡ true) (sym c.requires) rise))
