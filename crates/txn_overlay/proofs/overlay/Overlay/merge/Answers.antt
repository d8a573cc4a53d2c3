use Rattle.txn_overlay.proofs.Steps.{merged_is}
use Rattle.txn_overlay.proofs.Merges.{rows_same}
use Rattle.txn_overlay.proofs.overlay.Overlay.merge.Goals as goal

pub returns : goal.returns
returns c =
    rows_same (λ v. v.items) _ _ _ (merged_is c.args.object c.self.inside.changes.entries c.args.self.now _ _ c.args.answered.items c.self.invariant.fit c.self.invariant.rising c.self.view_is c.in_ok-own.ensures c.in_ok-others.ensures) c.merge_rows.ensures
