use Rattle.std.proofs.Common.{refl}
use Rattle.apex_lexer.specs.declared.lexeme.Lexeme.TheVariants.{Apart}
use Rattle.apex_lexer.specs.Lexemes.{is_blank, run}
use Rattle.apex_lexer.proofs.Firsts.{of_class, blank_class, run_longest}
use Rattle.apex_lexer.proofs.scan.blanks.Goals as goal

pub returns : goal.returns
returns c =
    of_class (λ bytes. run is_blank bytes Apart) c.args.text.now _ (blank_class c.args.text.now c.requires) (run_longest is_blank c.args.text.now _ (λ bytes. Apart) c.requires c.run_length.ensures.length refl tt)
