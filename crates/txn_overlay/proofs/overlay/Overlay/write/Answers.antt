use Rattle.std.proofs.Common.{sym, ap, subst, ◌∙◌}
use Rattle.txn_overlay.specs.Changes.{AllFit, IsKeyed, plain, changed, shown}
use Rattle.txn_overlay.specs.Logs.{put_back, was_at}
use Rattle.txn_overlay.proofs.Steps.{fit_after, inserted_is}
use Rattle.txn_overlay.proofs.Undoing.{put_back_is}
use Rattle.txn_overlay.proofs.overlay.Overlay.write.Goals as goal

pub invariant_of-self : goal.invariant_of-self
invariant_of-self c = record {
  fit = subst AllFit (sym c.in-Ok.ensures.entries) (fit_after c.args.id c.args.change c.self.inside.changes.entries c.requires c.self.invariant.fit);
  rising = c.in-Ok.ensures.ordered;
}

pub invariant_of-self-2 : goal.invariant_of-self-2
invariant_of-self-2 c = subst IsKeyed (sym c.in-Err.ensures.err) c.self.invariant

pub returns-in-Ok-clause-ok : goal.returns-in-Ok-clause-ok
returns-in-Ok-clause-ok c =
    ap plain c.in-Ok.ensures.entries ∙ inserted_is c.args.id c.args.change c.self.inside.changes.entries ∙ ap (λ v. changed c.args.id (shown c.args.change) v) c.self.view_is

pub returns-in-Ok-clause-back : goal.returns-in-Ok-clause-back
returns-in-Ok-clause-back c =
    ap (λ w. put_back w (plain c.insert.new.self.entries)) c.was_at.ensures ∙ ap (λ es. put_back (was_at c.args.id c.in-Ok.found) (plain es)) c.in-Ok.ensures.entries
    ∙ put_back_is c.args.id c.args.change c.self.inside.changes.entries c.self.invariant.fit c.self.invariant.rising c.in-Ok.found (sym c.in-Ok.ensures.old) ∙ c.self.view_is
