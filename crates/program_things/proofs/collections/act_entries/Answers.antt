use Rattle.std.proofs.Common.{◌+◌, sym, ap, ◌∙◌}
use Rattle.heap_methods.specs.Making.{map_of}
use Rattle.heap_methods.specs.Outcomes.{content}
use Rattle.txn_heap.specs.declared.thing.Thing.TheVariants as T
use Rattle.stack_code.specs.Things.{entries_next, make_for}
use Rattle.program_things.specs.Collects.{flat}
use Rattle.program_things.proofs.Called.{renamed}
use Rattle.program_things.proofs.Made.{entries_is}
use Rattle.program_things.proofs.Same.{taken_is, with_stack}
use Rattle.program_things.proofs.collections.act_entries.Goals as goal

pub returns : goal.returns
returns c =
    let rest = c.take_pairs.new.stack in let pairs = c.in_ok-pairs.pairs.items in
    renamed c.make_thing.result _ _ c.make_thing.new.c
    (taken_is (c.args.count + c.args.count) c.args.c.now.top.stack rest (flat pairs) (λ vs stack. entries_next vs c.args.c.now stack) c.in_ok-pairs.ensures
    ∙ entries_is pairs c.args.c.now rest rest
    ∙ sym (ap (λ es. make_for (32 + content (T.Map es)) (T.Map es) (with_stack c.args.c.now rest) rest) (c.in_ok-entries.ensures ∙ ap map_of c.as_slice.ensures.value))) c.make_thing.ensures
