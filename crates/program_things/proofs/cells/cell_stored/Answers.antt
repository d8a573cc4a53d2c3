use Rattle.std.proofs.Common.{◌∷◌, sym, subst, ◌∙◌}
use Rattle.stack_code.specs.declared.state.Config.{Config}
use Rattle.stack_code.specs.Machine.{next}
use Rattle.program_things.specs.Steps.{IsStep}
use Rattle.program_things.proofs.Called.{renamed}
use Rattle.program_things.proofs.CellSteps.{stored_none, stored_some}
use Rattle.program_things.proofs.cells.cell_stored.Goals as goal

pub returns-in-Some : goal.returns-in-Some
returns-in-Some c =
    let before = c.args.c.now in let go = λ (d : Config). next d (c.args.put ∷ before.top.stack) in
    renamed c.store_in.result _ _ c.store_in.new.c
    (stored_some c.args.field c.args.on.now c.args.value c.in-Some.setting before go (sym c.setting.ensures ∙ c.in-Some.is)) c.store_in.ensures

pub returns-in-None : goal.returns-in-None
returns-in-None c =
    subst (λ x. IsStep x c.raise.result c.raise.new.c)
    (sym (stored_none c.args.field c.args.on.now c.args.value c.args.c.now (λ d. next d (c.args.put ∷ c.args.c.now.top.stack)) (sym c.setting.ensures ∙ c.in-None.is))) c.raise.ensures
