use Rattle.std.proofs.Common.{◌∷◌, None, sym, ap, subst}
use Rattle.heap_methods.specs.Making.{copied}
use Rattle.heap_methods.specs.Plans.{Copies, FailsBy}
use Rattle.stack_code.specs.Machine.{next}
use Rattle.stack_code.specs.Things.{copied_next}
use Rattle.program_things.specs.Steps.{IsStep}
use Rattle.program_things.proofs.Called.{renamed}
use Rattle.program_things.proofs.collections.copied_next.Goals as goal

pub returns-in-Ok : goal.returns-in-Ok
returns-in-Ok c =
    let before = c.args.c.now in let o = copied c.args.into c.args.from.now before.world.heap in
    renamed c.make_thing.result _ _ c.make_thing.new.c
    (ap (λ x. copied_next x before before.top.stack) (subst (λ r. Copies o r) c.in-Ok.is c.copied.ensures)) c.make_thing.ensures

pub returns-in-Err-Throw : goal.returns-in-Err-Throw
returns-in-Err-Throw c =
    let before = c.args.c.now in let o = copied c.args.into c.args.from.now before.world.heap in
    subst (λ x. IsStep (copied_next x before before.top.stack) c.throw.result c.throw.new.c) (sym (subst (λ e. FailsBy o e) c.in-Err-Throw.field-0-is (subst (λ r. Copies o r) c.in-Err-Throw.is c.copied.ensures)))
    (c.throw.ensures 0 None (λ v e. next e (v ∷ before.top.stack)))
