use Rattle.apex_lexer.specs.Lexemes.{quoted, slashed, sign}
use Rattle.apex_lexer.specs.Scans.{behind_first}
use Rattle.apex_lexer.proofs.Firsts.{of_class, quote_class, slash_class, sign_class}
use Rattle.apex_lexer.proofs.scan.other.Goals as goal

pub returns-then-b-eq39 : goal.returns-then-b-eq39
returns-then-b-eq39 c =
    of_class (behind_first quoted) c.args.text.now _ (quote_class c.args.text.now (record { some = c.requires.some; letter = c.requires.letter; digit = c.requires.digit; blank = c.requires.blank }) c.if-b-eq39.true) c.quoted.ensures

pub returns-then-b-eq47 : goal.returns-then-b-eq47
returns-then-b-eq47 c =
    of_class (behind_first slashed) c.args.text.now _ (slash_class c.args.text.now (record { some = c.requires.some; letter = c.requires.letter; digit = c.requires.digit; blank = c.requires.blank }) c.if-b-eq47.true) c.slash.ensures

pub returns-then-b-lt128 : goal.returns-then-b-lt128
returns-then-b-lt128 c =
    of_class sign c.args.text.now _ (sign_class c.args.text.now (record { some = c.requires.some; letter = c.requires.letter; digit = c.requires.digit; blank = c.requires.blank }) c.if-b-eq39.false c.if-b-eq47.false c.if-b-lt128.true) c.sign.ensures
