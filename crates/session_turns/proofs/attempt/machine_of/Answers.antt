use Rattle.std.proofs.Common.{sym, subst}
use Rattle.session_turns.specs.Calls.{no_log}
use Rattle.session_turns.specs.Turns.{Runs}
use Rattle.session_turns.proofs.attempt.machine_of.Goals as goal

pub returns-in-Apex : goal.returns-in-Apex
returns-in-Apex c schema ticket = subst (λ w. Runs schema c.args.image.now ticket w no_log c.machine_of_block.result) (sym c.in-Apex.is) (c.machine_of_block.ensures schema ticket)
