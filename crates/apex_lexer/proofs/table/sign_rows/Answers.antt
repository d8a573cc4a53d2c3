use Rattle.std.proofs.Common.{refl}
use Rattle.apex_lexer.specs.Words.{sign_words}
use Rattle.apex_lexer.proofs.table.sign_rows.Goals as goal

pub returns : goal.returns
unfolding sign_words
returns c = refl
