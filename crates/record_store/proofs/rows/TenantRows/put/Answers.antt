use Rattle.std.proofs.Common.{sym, ap, subst, ◌∙◌}
use Rattle.row_meaning.specs.Stores as S
use Rattle.record_store.specs.Places.{AllFit, HasPlace, rows_of}
use Rattle.record_store.proofs.Steps.{put_rows, put_fit, keys_stay}
use Rattle.record_store.proofs.rows.TenantRows.put.Goals as goal

pub invariant_of-self : goal.invariant_of-self
invariant_of-self c = record {
  fit = subst AllFit (sym c.write.ensures.entries) (put_fit c.args.row c.self.inside.places.entries c.self.invariant.fit);
  rising = c.write.ensures.rising;
}

pub returns-clause-rows : goal.returns-clause-rows
returns-clause-rows c =
    ap rows_of c.write.ensures.entries
    ∙ put_rows c.args.row c.self.inside.places.entries c.self.invariant.fit c.self.invariant.rising (subst (HasPlace c.args.row.id) (sym c.self.view_is) c.requires)
    ∙ ap (λ ps. S.put c.args.row (rows_of ps)) c.self.view_is

pub returns-clause-stay : goal.returns-clause-stay
returns-clause-stay c = λ id h. keys_stay c.self.inside.places.entries _ c.write.ensures.keys id (subst (HasPlace id) (sym c.self.view_is) h)
