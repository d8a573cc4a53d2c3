use Rattle.std.proofs.Common.{◌+◌, arith}
use Rattle.apex_lexer.proofs.Digits.{value_more, front_least}
use Rattle.apex_lexer.proofs.scan.digits_below.Goals as goal

pub returns-then-wide-most : goal.returns-then-wide-most
returns-then-wide-most c =
    let xs = c.args.digits.now in
    let i = c.loop-digit.digit-index in
    front_least xs (i + 1) c.args.most _ (let t = c.loop-digit-test.true in omega arith) (value_more xs i c.loop-digit.value c.requires.digits c.loop-digit-test.true c.loop-digit.invariant.value) c.if-wide-most.true

pub loop-digit-preserved : goal.loop-digit-preserved
loop-digit-preserved c =
    record {
      value = value_more c.args.digits.now c.loop-digit.digit-index c.loop-digit.value c.requires.digits c.loop-digit-test.true c.loop-digit.invariant.value;
      below = c.if-wide-most.false;
    }
