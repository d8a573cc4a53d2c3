use Rattle.std.proofs.Common.{sym, subst, ◌∙◌}
use Rattle.apex_meaning.specs.Collections.{items_of}
use Rattle.program_things.specs.Steps.{IsStep}
use Rattle.program_things.proofs.Called.{renamed}
use Rattle.program_things.proofs.Same.{not_seen, seen}
use Rattle.program_things.proofs.collections.seen_next.Goals as goal

pub returns-then-seen : goal.returns-then-seen
returns-then-seen c =
    let before = c.args.c.now in
    renamed c.next_with.result _ _ c.next_with.new.c (seen (items_of c.args.value before.world.heap) c.args.value before before.top.stack (sym c.names_items-seen.ensures ∙ c.if-seen.true)) c.next_with.ensures

pub returns-else-seen : goal.returns-else-seen
returns-else-seen c =
    let before = c.args.c.now in
    subst (λ x. IsStep x c.raise.result c.raise.new.c) (sym (not_seen (items_of c.args.value before.world.heap) c.args.value before before.top.stack (sym c.names_items-seen.ensures ∙ c.if-seen.false))) c.raise.ensures
