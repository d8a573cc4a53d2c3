use Rattle.commands.proofs.Blocks.{runs_input}
use Rattle.commands.proofs.Statuses.{answered_of}
use Rattle.commands.specs.Exec.{IsInput, IsRefused, Replied}
use Rattle.commands.proofs.exec.exec_text.Goals as goal

pub returns-clause-execs : goal.returns-clause-execs
returns-clause-execs g c =
    answered_of (Replied c.exec.new.image) (IsRefused c.exec.new.image) 7 IsInput (runs_input c.exec.new.image) (λ bytes line r. r.none) _ c.status.result c.exec.result c.status.ensures c.exec.ensures.cause
