use Rattle.std.proofs.Common.{rules, arith, ◌*◌, ◌<◌, length}
use Rattle.apex_num.proofs.dec_text.read_part.Goals as goal
use Rattle.apex_num.specs.Decimals.{IsPart}
use Rattle.apex_num.proofs.Reading.{no_digits, part_answer, part_below, small_part}

pub returns-then-length-part : goal.returns-then-length-part
returns-then-length-part c =
    let some : 0 < length c.args.text.now = search rules in
    no_digits c.args.text.now c.split_at.result.1.now c.read_digits-length.result.0 some c.split_at.ensures.back c.if-length-part.true c.read_digits-length.ensures.end

answer : (c : goal.After-pow) → IsPart c.args.text.now (c.read_digits-length.result.1 * c.pow.result)
answer c =
    let some : 0 < length c.split_at.result.1.now = search rules in
    part_answer c.args.text.now c.split_at.result.1.now c.read_digits-length.result.0 c.read_digits-length.result.1 c.pow.result c.if-text-ne46.false c.split_at.ensures.back
    some c.if-part-gt6.false c.if-length-part.false c.read_digits-length.ensures.within c.read_digits-length.ensures.digits c.read_digits-length.ensures.value c.pow.ensures

pub overflow_mul-result : goal.overflow_mul-result
overflow_mul-result c = let small = small_part c.args.text.now (c.read_digits-length.result.1 * c.pow.result) (answer c) in omega arith

pub returns : goal.returns
returns c = (answer c, part_below c.args.text.now (c.read_digits-length.result.1 * c.pow.result) (answer c))
