use Rattle.apex_lexer.proofs.Readings.{refused_utf8, refused_before, broken_before}
use Rattle.apex_lexer.proofs.lexer.earlier.Goals as goal

pub returns-in-None : goal.returns-in-None
returns-in-None c = refused_utf8 c.args.text.now c.args.fault.word c.args.fault.span c.requires c.in-None.ensures

pub returns-then-is_before : goal.returns-then-is_before
returns-then-is_before c = broken_before c.args.text.now c.args.fault.word c.args.fault.span c.in-Some.invalid c.requires c.in-Some.ensures c.if-is_before.ensures

pub returns-else-is_before : goal.returns-else-is_before
returns-else-is_before c = refused_before c.args.text.now c.args.fault.word c.args.fault.span c.in-Some.invalid c.requires c.in-Some.ensures c.if-is_before.ensures
