use Rattle.std.proofs.Common.{◌+◌, sym, ap, ◌∙◌}
use Rattle.heap_methods.specs.Outcomes.{content}
use Rattle.stack_code.specs.Things.{filled_next, make_for}
use Rattle.program_things.proofs.Called.{renamed}
use Rattle.program_things.proofs.Made.{filled_is}
use Rattle.program_things.proofs.Same.{taken_is, with_stack}
use Rattle.program_things.proofs.collections.act_filled.Goals as goal

pub returns : goal.returns
returns c =
    let rest = c.take_values.new.stack in
    renamed c.make_thing.result _ _ c.make_thing.new.c
    (taken_is c.args.count c.args.c.now.top.stack rest c.in_ok-values.values.items (λ vs stack. filled_next c.args.kind vs c.args.c.now stack) c.in_ok-values.ensures
    ∙ filled_is c.args.kind c.in_ok-values.values.items c.args.c.now rest rest
    ∙ sym (ap (λ t. make_for (32 + content t) t (with_stack c.args.c.now rest) rest) c.in_ok-thing.ensures)) c.make_thing.ensures
