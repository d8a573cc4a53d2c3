use Rattle.session_turns.proofs.Tries.{runs_empty}
use Rattle.session_turns.proofs.attempt.begun.Goals as goal

pub returns-clause-runs : goal.returns-clause-runs
returns-clause-runs c schema ticket = runs_empty schema c.args.image.now ticket c.args.work.now c.new.result c.machine_of.result (c.new.ensures.asked, c.new.ensures.answers) (c.machine_of.ensures schema ticket)
