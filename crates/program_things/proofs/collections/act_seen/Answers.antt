use Rattle.std.proofs.Common.{◌∙◌}
use Rattle.apex_meaning.specs.Collections.{items_of}
use Rattle.stack_code.specs.Steps.{seen_next}
use Rattle.program_things.proofs.Called.{renamed}
use Rattle.program_things.proofs.Same.{seen_alike, top_is}
use Rattle.program_things.proofs.collections.act_seen.Goals as goal

pub returns : goal.returns
returns c =
    let rest = c.take-value.new.stack in let before = c.args.c.now in
    renamed c.seen_next.result _ _ c.seen_next.new.c
    (top_is before.top.stack rest c.take-value.result (λ v stack. seen_next (items_of v before.world.heap) v before stack) c.take-value.ensures
    ∙ seen_alike (items_of c.take-value.result before.world.heap) c.take-value.result before rest rest) c.seen_next.ensures
