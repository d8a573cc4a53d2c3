use Rattle.std.proofs.Common.{ap, ◌∙◌, ◌++◌, ◌∷◌, [], set}
use Rattle.std.proofs.Math.Seq.{set-append_seam}
use Rattle.txn_overlay.specs.declared.overlay.Was.TheVariants.{Untouched}
use Rattle.txn_overlay.proofs.Undoing.{pushed_gone}
use Rattle.txn_overlay.proofs.journal.write_logged.Goals as goal

pub returns-in-Ok-clause-logged : goal.returns-in-Ok-clause-logged
returns-in-Ok-clause-logged c = record {
  was = c.in-Ok.was;
  added = c.set.ensures ∙ ap (λ ws. set ws c.len-at.result c.in-Ok.was) c.in_ok-push.ensures.ok ∙ ap (λ n. set (c.args.log.now ++ Untouched c.args.id ∷ []) n c.in-Ok.was) c.len-at.ensures
      ∙ set-append_seam c.args.log.now (Untouched c.args.id) [] c.in-Ok.was;
  back = c.in-Ok.ensures.back;
}

pub returns-in-Err-clause-same : goal.returns-in-Err-clause-same
returns-in-Err-clause-same c = pushed_gone c.pop.result c.args.log.now (Untouched c.args.id) c.push.new.self c.pop.new.self c.in_ok-push.ensures.ok c.pop.ensures
