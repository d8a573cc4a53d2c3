use Rattle.std.proofs.Common.{sym, ap, subst, ◌∙◌}
use Rattle.record_store.specs.Places.{AllFit, HasPlace, rows_of}
use Rattle.record_store.proofs.Steps.{placed_rows, placed_fit, placed_stay, is_none}
use Rattle.record_store.proofs.rows.TenantRows.make_place.Goals as goal

pub invariant_of-self : goal.invariant_of-self
invariant_of-self c = record {
  fit = subst AllFit (sym c.in-Ok.ensures.entries) (placed_fit c.args.id c.self.inside.places.entries c.self.invariant.fit);
  rising = c.in-Ok.ensures.ordered;
}

pub returns-in-Ok-clause-rows : goal.returns-in-Ok-clause-rows
returns-in-Ok-clause-rows c =
    ap rows_of c.in-Ok.ensures.entries ∙ placed_rows c.args.id c.self.inside.places.entries (is_none _ (sym c.contains_key.ensures ∙ c.if-contains_key.false)) ∙ ap rows_of c.self.view_is

pub returns-in-Ok-clause-stay : goal.returns-in-Ok-clause-stay
returns-in-Ok-clause-stay c = λ q h. placed_stay q c.args.id _ _ (c.in-Ok.ensures.updates.0 q) (subst (HasPlace q) (sym c.self.view_is) h)
