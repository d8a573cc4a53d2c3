use Rattle.std.proofs.Common.{◌∙◌, sym, subst, arith}
use Rattle.apex_lexer.specs.Lexemes.{sign}
use Rattle.apex_lexer.specs.Scans.{IsLongest}
use Rattle.apex_lexer.proofs.Firsts.{sign_longest, no_long_sign, none_of_three}
use Rattle.apex_lexer.proofs.scan.long_sign.Goals as goal

pub returns-then-not-may_go_on : goal.returns-then-not-may_go_on
returns-then-not-may_go_on c =
    let e = sym c.may_go_on.ensures ∙ c.if-not-may_go_on.true in
    (no_long_sign c.args.text.now 1 e, no_long_sign c.args.text.now 0 e)

pub returns-in-Some : goal.returns-in-Some
returns-in-Some c =
    subst (IsLongest sign c.args.text.now) (sym c.found_sign.ensures)
    (sign_longest c.args.text.now 3 (λ n lt le. absurd (omega arith)) c.in-Some.sign (omega arith) (sym c.sign_at.ensures ∙ c.in-Some.is))

pub returns-in-Some-sign_at : goal.returns-in-Some-sign_at
returns-in-Some-sign_at c =
    subst (IsLongest sign c.args.text.now) (sym c.found_sign-in-Some-sign_at.ensures)
    (sign_longest c.args.text.now 2 (none_of_three c.args.text.now (sym c.sign_at.ensures ∙ c.in_default.is)) c.in-Some-sign_at.sign (omega arith) (sym c.sign_at-2.ensures ∙ c.in-Some-sign_at.is))
