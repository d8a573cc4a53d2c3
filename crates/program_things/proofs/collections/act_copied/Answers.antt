use Rattle.std.proofs.Common.{sym, ap, ◌∙◌}
use Rattle.heap_methods.specs.Making.{copied}
use Rattle.apex_meaning.specs.Collections.{collection}
use Rattle.stack_code.specs.Things.{copied_next}
use Rattle.program_things.proofs.Called.{renamed}
use Rattle.program_things.proofs.Same.{copied_alike, top_is, with_stack}
use Rattle.program_things.proofs.collections.act_copied.Goals as goal

pub returns : goal.returns
returns c =
    let rest = c.take-from.new.stack in let before = c.args.c.now in
    renamed c.copied_next.result _ _ c.copied_next.new.c
    (top_is before.top.stack rest c.take-from.result (λ v stack. copied_next (copied (collection c.args.kind) v before.world.heap) before stack) c.take-from.ensures
    ∙ copied_alike (copied (collection c.args.kind) c.take-from.result before.world.heap) before rest rest
    ∙ sym (ap (λ k. copied_next (copied k c.take-from.result before.world.heap) (with_stack before rest) rest) c.collection_of.ensures)) c.copied_next.ensures
