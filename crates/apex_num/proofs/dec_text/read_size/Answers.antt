use Rattle.std.proofs.Common.{arith}
use Rattle.apex_num.proofs.Reading.{size_answer, no_size}
use Rattle.apex_num.proofs.dec_text.read_size.Goals as goal

pub returns-in-Some : goal.returns-in-Some
returns-in-Some c =
    let e = c.read_digits-length.ensures in
    size_answer c.args.text.now c.read_digits-length.result.0 c.read_digits-length.result.1 e.within e.digits e.end e.value c.split_at.result.1.now c.in-Some.part (omega arith) c.split_at.ensures.back c.in-Some.ensures.0 c.in-Some.ensures.1

pub returns-in-None : goal.returns-in-None
returns-in-None c =
    let e = c.read_digits-length.ensures in
    no_size c.args.text.now c.read_digits-length.result.0 c.read_digits-length.result.1 e.within e.digits e.end e.value c.split_at.result.1.now c.split_at.ensures.back c.in-None.ensures
