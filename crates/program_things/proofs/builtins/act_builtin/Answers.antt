use Rattle.std.proofs.Common.{◌∙◌}
use Rattle.stack_code.specs.Things.{builtin_next}
use Rattle.program_things.proofs.Called.{renamed}
use Rattle.program_things.proofs.Same.{builtin_alike, taken_is}
use Rattle.program_things.proofs.builtins.act_builtin.Goals as goal

pub returns : goal.returns
returns c =
    renamed c.builtin_next.result _ _ c.builtin_next.new.c
    (taken_is c.args.count c.args.c.now.top.stack c.take_values.new.stack c.in_ok-values.values.items (λ vs stack. builtin_next c.args.ticket c.args.image.now c.args.which vs c.args.c.now stack) c.in_ok-values.ensures
    ∙ builtin_alike c.args.ticket c.args.image.now c.args.which c.in_ok-values.values.items c.args.c.now c.take_values.new.stack c.take_values.new.stack) c.builtin_next.ensures
