use Rattle.apex_num.proofs.Reading.{more_digits}
use Rattle.apex_num.proofs.dec_text.read_digits.Goals as goal

pub loop-i-preserved : goal.loop-i-preserved
loop-i-preserved c = more_digits c.args.text.now c.loop-i.i c.loop-i.value c.min-value.result c.loop-i-test.true c.loop-i.invariant.0 c.if-not-is_ascii_digit.ensures.cases c.loop-i.invariant.1 c.min-value.ensures
