use Rattle.std.proofs.Common.{◌≡◌, true, refl, sym, arith}
use Rattle.std.proofs.lemmas.List.{length-map}
use Rattle.std.specs.Char.{to_ascii_lowercase}
use Rattle.apex_text.specs.Fold.{folded}
use Rattle.apex_lexer.specs.Words.{keyword_words}
use Rattle.apex_lexer.proofs.Rows.{short, too_long}
use Rattle.apex_lexer.proofs.words.keyword_of.Goals as goal

all_short : short 10 keyword_words ≡ true
unfolding keyword_words
all_short = refl

pub returns-then-written-gt-LONGEST : goal.returns-then-written-gt-LONGEST
returns-then-written-gt-LONGEST c =
    let n = length-map c.args.written.now to_ascii_lowercase in let t = c.if-written-gt-LONGEST.true in sym (too_long 10 keyword_words (folded c.args.written.now) all_short (omega arith))
