use Rattle.std.proofs.Common.{◌∙◌, sym, subst, arith}
use Rattle.apex_lexer.specs.Lexemes.{sign}
use Rattle.apex_lexer.specs.Scans.{IsLongest}
use Rattle.apex_lexer.proofs.Firsts.{sign_longest, bad_longest, none_of_two, none_of_one}
use Rattle.apex_lexer.proofs.scan.sign.Goals as goal

pub returns-in-Some-sign_at : goal.returns-in-Some-sign_at
returns-in-Some-sign_at c =
    let none = c.in_default.ensures in
    subst (IsLongest sign c.args.text.now) (sym c.found_sign.ensures)
    (sign_longest c.args.text.now 1 (none_of_two c.args.text.now none.0 none.1) c.in-Some-sign_at.sign (omega arith) (sym c.sign_at.ensures ∙ c.in-Some-sign_at.is))

pub returns : goal.returns
returns c =
    let none = c.in_default.ensures in
    bad_longest c.args.text.now c.requires.some (none_of_one c.args.text.now none.0 none.1 (sym c.sign_at.ensures ∙ c.in_default-sign_at.is))
