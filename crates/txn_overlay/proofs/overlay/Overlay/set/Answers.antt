use Rattle.std.proofs.Common.{sym, ap, subst, ◌∙◌}
use Rattle.std.specs.BTreeMap.{is_at}
use Rattle.std.specs.Map.{set_value}
use Rattle.row_meaning.specs.Cells.{bytes_cmp}
use Rattle.txn_overlay.specs.Changes.{AllFit, plain, shown}
use Rattle.txn_overlay.proofs.Undoing.{set_fit, plain_set}
use Rattle.txn_overlay.proofs.overlay.Overlay.set.Goals as goal

pub invariant_of-self : goal.invariant_of-self
invariant_of-self c = record {
  fit = subst AllFit (sym c.replace.ensures.entries) (set_fit c.args.id c.args.change c.self.inside.changes.entries c.requires c.self.invariant.fit);
  rising = c.replace.ensures.rising;
}

pub returns : goal.returns
returns c =
    ap plain c.replace.ensures.entries ∙ plain_set c.args.id c.args.change c.self.inside.changes.entries ∙ ap (λ v. set_value (is_at (bytes_cmp c.args.id)) v (shown c.args.change)) c.self.view_is
