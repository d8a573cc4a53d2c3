use Rattle.std.proofs.Common.{ap, ◌∙◌}
use Rattle.save_statements.specs.Moves.{came_back}
use Rattle.save_statements.specs.declared.run.SaveRun.{SaveRun}
use Rattle.stack_code.specs.Machine.{closed, in_mode}
use Rattle.stack_code.specs.Steps.{fired_by}
use Rattle.stack_code.specs.declared.state.After.TheVariants as A
use Rattle.stack_code.specs.declared.state.Config.{Config}
use Rattle.stack_code.specs.declared.state.Firing.{Firing}
use Rattle.stack_code.specs.declared.state.Mode.TheVariants as M
use Rattle.program_things.proofs.firings.hand_back.Goals as goal

pub returns : goal.returns
returns c =
    λ site. let f : Firing = c.into_value-firing.result in let image = c.args.image.now in let why = c.args.why.now in let before : Config = c.args.c.now in
    c.set_mode.ensures
    ∙ ap (λ (run : SaveRun). in_mode c.close.new.c (M.Saving f.places run)) (c.in_ok-came_back.ensures ∙ ap (came_back f.run) (c.in_ok-fired.ensures site))
    ∙ ap (λ (x : Config). in_mode x (M.Saving f.places (came_back f.run (fired_by site image f why before)))) c.close.ensures
    ∙ ap (λ (x : Firing). in_mode (closed (A.Fired x) before) (M.Saving x.places (came_back x.run (fired_by site image x why before)))) c.into_value-firing.ensures
