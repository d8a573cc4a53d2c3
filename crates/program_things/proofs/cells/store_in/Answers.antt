use Rattle.std.proofs.Common.{◌∷◌, ap, sym, subst, ◌∙◌}
use Rattle.apex_num.specs.declared.kind.LimitKind.TheVariants.{Alloc}
use Rattle.apex_meaning.specs.Places.{with_cell}
use Rattle.stack_code.specs.Machine.{charged, next, with_heap}
use Rattle.stack_code.specs.Things.{if_takes_cell}
use Rattle.stack_code.specs.declared.state.Config.{Config}
use Rattle.program_things.specs.Steps.{IsStep}
use Rattle.program_things.proofs.Called.{renamed}
use Rattle.program_things.proofs.cells.store_in.Goals as goal

pub returns-then-takes : goal.returns-then-takes
returns-then-takes c =
    let before = c.args.c.now in let s = c.args.setting in let go = λ (d : Config). next d (c.args.put ∷ before.top.stack) in
    renamed c.know.result _ _ c.know.new.c
    (ap (λ b. if_takes_cell b before (charged Alloc s.1 before (λ d. go (with_heap d (with_cell c.args.field c.args.value s.0.place d.world.heap))))) (sym c.takes_cell-takes.ensures ∙ c.if-takes.true))
    c.know.ensures

pub returns-else-takes : goal.returns-else-takes
returns-else-takes c =
    let before = c.args.c.now in let s = c.args.setting in let go = λ (d : Config). next d (c.args.put ∷ before.top.stack) in
    subst (λ x. IsStep x c.raise.result c.raise.new.c)
    (sym (ap (λ b. if_takes_cell b before (charged Alloc s.1 before (λ d. go (with_heap d (with_cell c.args.field c.args.value s.0.place d.world.heap))))) (sym c.takes_cell-takes.ensures ∙ c.if-takes.false))) c.raise.ensures
