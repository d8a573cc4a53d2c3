use Rattle.program_things.proofs.Called.{renamed}
use Rattle.program_things.proofs.Same.{calculate_is}
use Rattle.program_things.proofs.values.act_calc.Goals as goal

pub returns : goal.returns
returns c =
    renamed c.operator_next.result _ _ c.operator_next.new.c
    (calculate_is c.args.left c.args.op c.args.right c.take-first.result c.take-second.result c.args.c.now c.take-second.new.stack c.take-first.new.stack c.take-second.ensures c.take-first.ensures) c.operator_next.ensures
