use Rattle.std.proofs.Common.{◌≡◌, true, MatchBool, drop, subst}
use Rattle.civil_dates.specs.Texts.{BeginsDate}
use Rattle.apex_lexer.specs.Lexemes.{plain}
use Rattle.apex_lexer.specs.Brackets.{inside}
use Rattle.apex_lexer.specs.Scans.{IsLongest}
use Rattle.apex_lexer.proofs.Dates.{plain_first}
use Rattle.apex_lexer.proofs.lexer.piece_at.Goals as goal

pub returns-else-branch-clause-first : goal.returns-else-branch-clause-first
returns-else-branch-clause-first c =
    let text = c.args.text.now in
    let at = c.args.at in
    plain_first (inside text at) (drop at text) c.first_piece.result (subst (λ l. IsLongest plain l c.first_piece.result) c.split_at-else-branch.ensures.back c.first_piece.ensures)
    (subst (λ b. MatchBool b ((inside text at ≡ true) × BeginsDate (drop at text)) (inside text at ≡ true → BeginsDate (drop at text) → ⊥)) c.if-branch.false c.in_ok-reads_date.ensures.answer)
