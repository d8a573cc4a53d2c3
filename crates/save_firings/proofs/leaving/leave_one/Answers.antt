use Rattle.std.proofs.Common.{◌∷◌, ap, ◌∙◌}
use Rattle.save_statements.specs.declared.firing.Entry.{Entry}
use Rattle.save_statements.specs.Firings.{all_left}
use Rattle.save_firings.proofs.Lefts.{stays_outside}
use Rattle.save_firings.proofs.leaving.leave_one.Goals as goal

pub returns-in-Outside : goal.returns-in-Outside
returns-in-Outside c = λ es. ap (λ (x : Entry). all_left c.args.left.now (x ∷ es)) c.in-Outside.is ∙ stays_outside c.args.left.now c.in-Outside.error es
