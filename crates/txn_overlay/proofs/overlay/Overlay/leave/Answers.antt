use Rattle.std.proofs.Common.{sym, ap, subst, ◌∙◌}
use Rattle.std.specs.BTreeMap.{is_at}
use Rattle.std.specs.Map.{remove_entry}
use Rattle.row_meaning.specs.Cells.{bytes_cmp}
use Rattle.txn_overlay.specs.Changes.{AllFit, plain}
use Rattle.txn_overlay.proofs.Undoing.{removed_fit, plain_removed}
use Rattle.txn_overlay.proofs.overlay.Overlay.leave.Goals as goal

pub invariant_of-self : goal.invariant_of-self
invariant_of-self c = record {
  fit = subst AllFit (sym c.remove.ensures.entries) (removed_fit c.args.id c.self.inside.changes.entries c.self.invariant.fit);
  rising = c.remove.ensures.ordered;
}

pub returns : goal.returns
returns c = ap plain c.remove.ensures.entries ∙ plain_removed c.args.id c.self.inside.changes.entries ∙ ap (λ v. remove_entry (is_at (bytes_cmp c.args.id)) v) c.self.view_is
