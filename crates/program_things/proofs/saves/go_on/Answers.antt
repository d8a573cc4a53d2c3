use Rattle.std.proofs.Common.{subst}
use Rattle.std.specs.Prelude.{IfOk}
use Rattle.save_moves.specs.Advances.{Advances}
use Rattle.save_stages.specs.Does.{site_of}
use Rattle.program_things.proofs.saves.go_on.Goals as goal

pub returns : goal.returns
returns c =
    subst (λ triggers. IfOk c.advance.result (λ s. Advances (site_of c.args.schema.now c.args.ticket) triggers c.args.run.now c.args.txn.now s c.advance.new.run c.advance.new.txn))
    c.table.ensures c.advance.ensures
