use Rattle.std.proofs.Common.{ap, ◌∙◌}
use Rattle.std.proofs.lemmas.Result.{IfOk-weaker}
use Rattle.query_rows.specs.Families.{Rows, at_places, family}
use Rattle.query_rows.proofs.under.Families.of.Goals as goal

pub returns : goal.returns
returns c =
    IfOk-weaker c.rows_at.result _ _
    (λ x h.
    h
    ∙ ap (λ rs. at_places rs c.places_at.result.now) c.deref.ensures.value
    ∙ ap (λ ps. at_places c.self.inside.rows.items ps) c.places_at.ensures
    ∙ c.self.invariant c.args.id.now
    ∙ ap (λ (w : Rows). family w.lookup w.rows c.args.id.now) c.self.view_is) c.rows_at.ensures
