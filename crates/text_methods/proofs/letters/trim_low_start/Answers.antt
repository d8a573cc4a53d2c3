use Rattle.std.proofs.Common.{◌∙◌, sym}
use Rattle.std.specs.Str.{chars}
use Rattle.text_methods.proofs.Walks.{low_stop, low_none, front_done}
use Rattle.text_methods.proofs.letters.trim_low_start.Goals as goal

pub returns-then-c-gt32-clause-bytes : goal.returns-then-c-gt32-clause-bytes
returns-then-c-gt32-clause-bytes c =
    front_done c.loop-c.rest.now c.args.text.now c.loop-c.invariant.0 c.loop-c.invariant.1 (low_stop (chars c.loop-c.rest.now) (chars c.in-Some.behind.now) c.in-Some.c c.in-Some.ensures.1 c.if-c-gt32.true)

pub returns-clause-bytes : goal.returns-clause-bytes
returns-clause-bytes c =
    front_done c.loop-c.rest.now c.args.text.now c.loop-c.invariant.0 c.loop-c.invariant.1 (low_none c.loop-c.rest.now c.in_default.ensures)

pub returns-clause-scalars : goal.returns-clause-scalars
returns-clause-scalars c = sym (low_none c.loop-c.rest.now c.in_default.ensures) ∙ c.loop-c.invariant.1
