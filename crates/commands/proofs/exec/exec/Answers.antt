use Rattle.commands.proofs.Statuses.{wrote}
use Rattle.commands.specs.Exec.{IsRefused, Replied}
use Rattle.commands.proofs.exec.exec.Goals as goal

pub returns-in-Ok-made-clause-cause : goal.returns-in-Ok-made-clause-cause
returns-in-Ok-made-clause-cause g c =
    wrote (Replied c.made.new.image) (IsRefused c.made.new.image) c.output.result _ c.in-Ok.bytes.items c.in-Ok-made.made c.in-Ok.ensures.read (rw (← c.deref.ensures.value) c.in-Ok-made.ensures) c.output.ensures.written
