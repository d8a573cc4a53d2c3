use Rattle.std.proofs.Common.{sym, ap, ◌∙◌}
use Rattle.apex_meaning.specs.Collections.{message_among}
use Rattle.txn_heap.specs.declared.thing.Thing.TheVariants as T
use Rattle.stack_code.specs.Things.{make_for}
use Rattle.program_things.proofs.Called.{renamed}
use Rattle.program_things.proofs.Same.{make_alike, taken_is, with_stack}
use Rattle.program_things.proofs.things.act_exception.Goals as goal

pub returns : goal.returns
returns c =
    let rest = c.take_values.new.stack in let vs = c.in_ok-values.values.items in
    renamed c.make_thing.result _ _ c.make_thing.new.c
    (taken_is c.args.count c.args.c.now.top.stack rest vs (λ ws stack. make_for 32 (T.Exception (record { class = c.args.class; message = message_among ws })) c.args.c.now stack) c.in_ok-values.ensures
    ∙ make_alike 32 (T.Exception (record { class = c.args.class; message = message_among vs })) c.args.c.now rest rest
    ∙ sym (ap (λ m. make_for 32 (T.Exception (record { class = c.args.class; message = m })) (with_stack c.args.c.now rest) rest) (c.in_ok-message.ensures ∙ ap message_among c.as_slice.ensures.value))) c.make_thing.ensures
