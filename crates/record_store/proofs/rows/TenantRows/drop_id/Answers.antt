use Rattle.std.proofs.Common.{sym, ap, subst, [], ◌∷◌, ◌∙◌}
use Rattle.row_meaning.specs.Stores.{without}
use Rattle.record_store.specs.Places.{AllFit, rows_of}
use Rattle.record_store.proofs.Steps.{removed_rows, removed_fit}
use Rattle.record_store.proofs.rows.TenantRows.drop_id.Goals as goal

pub invariant_of-self : goal.invariant_of-self
invariant_of-self c = record {
  fit = subst AllFit (sym c.remove.ensures.entries) (removed_fit c.args.id c.self.inside.places.entries c.self.invariant.fit);
  rising = c.remove.ensures.ordered;
}

pub returns : goal.returns
returns c = record {
  rows = ap rows_of c.remove.ensures.entries ∙ removed_rows c.args.id c.self.inside.places.entries c.self.invariant.fit c.self.invariant.rising ∙ ap (λ ps. without (c.args.id ∷ []) (rows_of ps)) c.self.view_is;
}
