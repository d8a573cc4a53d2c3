use Rattle.std.proofs.Common.{ap, ◌∙◌, List}
use Rattle.std.specs.Map.{values_of}
use Rattle.std.proofs.lemmas.Result.{IfOk-weaker}
use Rattle.apex_rows.specs.declared.row.Row.{Row}
use Rattle.delete_cascades.specs.Layers.{Layer, below, is_under, marked}
use Rattle.delete_cascades.proofs.Under.{below_is}
use Rattle.delete_cascades.proofs.level.Level.below.Goals as goal

pub returns : goal.returns
returns c =
    IfOk-weaker c.values.result _ _
    (λ found h.
    h
    ∙ ap values_of c.in_ok-found.ensures
    ∙ ap (λ (rows : List Row). values_of (marked (is_under c.self.inside.places c.args.ids.now) 0 rows)) c.as_slice.ensures
    ∙ below_is c.self.inside.namings c.self.inside.rows c.self.inside.places c.args.ids.now c.self.invariant
    ∙ ap (λ (layer : Layer). below layer c.args.ids.now) c.self.view_is) c.values.ensures
