use Rattle.std.proofs.Common.{reverse}
use Rattle.std.specs.Str.{chars}
use Rattle.text_methods.proofs.Walks.{low_stop, low_back_none, back_done}
use Rattle.text_methods.proofs.letters.trim_low_end.Goals as goal

pub returns-then-c-gt32 : goal.returns-then-c-gt32
returns-then-c-gt32 c =
    let i = c.loop-before.invariant in
    back_done c.loop-before.rest.now c.args.text.now i.0 i.1 (low_stop (reverse (chars c.loop-before.rest.now)) (reverse (chars c.in-Some.before.now)) c.in-Some.c c.in-Some.ensures.1 c.if-c-gt32.true)

pub returns : goal.returns
returns c =
    let i = c.loop-before.invariant in
    back_done c.loop-before.rest.now c.args.text.now i.0 i.1 (low_back_none c.loop-before.rest.now c.in_default.ensures)
