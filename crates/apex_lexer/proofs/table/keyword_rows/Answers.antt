use Rattle.std.proofs.Common.{refl}
use Rattle.apex_lexer.specs.Words.{keyword_words}
use Rattle.apex_lexer.proofs.table.keyword_rows.Goals as goal

pub returns : goal.returns
unfolding keyword_words
returns c = refl
