use Rattle.std.proofs.Common.{sym, ap, ◌∙◌}
use Rattle.request_states.specs.Statements.{records_of}
use Rattle.stack_code.specs.Steps.{save_next}
use Rattle.program_things.proofs.Called.{renamed}
use Rattle.program_things.proofs.Same.{save_alike, top_is, with_stack}
use Rattle.program_things.proofs.saves.act_save.Goals as goal

pub returns : goal.returns
returns c =
    let rest = c.take-value.new.stack in let before = c.args.c.now in
    renamed c.save_next.result _ _ c.save_next.new.c
    (top_is before.top.stack rest c.take-value.result (λ v stack. save_next c.args.op (records_of c.args.saved v before.world.heap) before stack) c.take-value.ensures
    ∙ save_alike c.args.op (records_of c.args.saved c.take-value.result before.world.heap) before rest rest
    ∙ sym (ap (λ r. save_next c.args.op r (with_stack before rest) rest) c.in_ok-records.ensures)) c.save_next.ensures
