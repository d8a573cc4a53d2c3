use Rattle.std.proofs.Common.{List, ℕ, Bool, ap, ◌∙◌, map}
use Rattle.std.specs.List.{list_all}
use Rattle.schema_build.specs.Lookups.{masters_in, flag_at}
use Rattle.schema_build.proofs.HeightSteps.{at_once, one_step_more}
use Rattle.schema_build.proofs.heights.short.Goals as goal

pub returns : goal.returns
returns c =
    let ms : List (List ℕ) = map masters_in c.args.masters.now in
    let none : List Bool = c.in_ok-none.none.items in
    let one : List Bool = c.in_ok-one.one.items in
    one_step_more ms one c.in_ok-two.two.items 1
    (one_step_more ms none one 0 (at_once ms none c.in_ok-none.ensures) (c.in_ok-one.ensures ∙ ap (λ l. map (list_all (flag_at l)) ms) c.deref.ensures.value))
    (c.in_ok-two.ensures ∙ ap (λ l. map (list_all (flag_at l)) ms) c.deref-2.ensures.value)
