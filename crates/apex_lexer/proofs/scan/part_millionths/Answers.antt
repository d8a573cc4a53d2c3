use Rattle.std.proofs.Common.{arith}
use Rattle.apex_lexer.proofs.Digits.{short_value}
use Rattle.apex_lexer.proofs.scan.part_millionths.Goals as goal

pub returns-in-None : goal.returns-in-None
returns-in-None c =
    absurd (let s = short_value c.args.part.now c.requires.digits c.requires.short in let m = c.in-None.ensures in omega arith)
