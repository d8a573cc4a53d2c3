use Rattle.std.proofs.Common.{◌∷◌, ap, sym, subst, ◌∙◌}
use Rattle.request_states.specs.Values.{null}
use Rattle.txn_heap.specs.Guards.{with_error}
use Rattle.stack_code.specs.Machine.{next, with_heap}
use Rattle.stack_code.specs.Things.{if_takes_error}
use Rattle.program_things.specs.Steps.{IsStep}
use Rattle.program_things.proofs.Called.{renamed}
use Rattle.program_things.proofs.builtins.add_error.Goals as goal

pub returns-then-takes : goal.returns-then-takes
returns-then-takes c =
    let before = c.args.c.now in
    renamed c.next_with.result _ _ c.next_with.new.c
    (ap (λ b. if_takes_error b before (next (with_heap before (with_error c.args.on.place c.args.message before.world.heap)) (null ∷ before.top.stack))) (sym c.takes_error-takes.ensures ∙ c.if-takes.true)
    ∙ ap (λ h. next (with_heap before h) (null ∷ before.top.stack)) (sym c.add_error.ensures))
    c.next_with.ensures

pub returns-else-takes : goal.returns-else-takes
returns-else-takes c =
    let before = c.args.c.now in
    subst (λ x. IsStep x c.raise.result c.raise.new.c)
    (sym (ap (λ b. if_takes_error b before (next (with_heap before (with_error c.args.on.place c.args.message before.world.heap)) (null ∷ before.top.stack))) (sym c.takes_error-takes.ensures ∙ c.if-takes.false))) c.raise.ensures
