use Rattle.std.proofs.Common.{ap}
use Rattle.apex_lexer.specs.declared.lexeme.Lexeme.TheVariants.{Says}
use Rattle.apex_lexer.proofs.Firsts.{word_longest}
use Rattle.apex_lexer.proofs.scan.word.Goals as goal

pub returns : goal.returns
returns c = word_longest c.args.text.now _ c.requires.begins c.run_length-size.ensures.length (ap Says c.word_kind.ensures)
