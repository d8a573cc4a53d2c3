use Rattle.std.proofs.Common.{refl}
use Rattle.save_statements.specs.declared.run.Phase.TheVariants as P
use Rattle.save_statements.specs.declared.run.Replayed.TheVariants.{Came, Wants}
use Rattle.save_statements.specs.declared.run.Stage.TheVariants as S
use Rattle.save_statements.specs.Loading.{load}
use Rattle.save_statements.specs.Moves.{at}
use Rattle.save_statements.specs.Statements.{unplaced}
use Rattle.save_stages.specs.Does.{site_of}
use Rattle.save_moves.proofs.Asking.{made}
use Rattle.save_moves.proofs.asks.load_chunk.Goals as goal

pub returns-in-Came : goal.returns-in-Came
returns-in-Came c =
    λ triggers. made (site_of c.args.schema.now c.args.ticket) triggers (at c.args.run.now (S.Load c.args.answers)) c.args.txn.now c.args.object.now c.requires.object
    (λ overlay o. load (site_of c.args.schema.now c.args.ticket) overlay c.args.run.now.act c.args.run.now.by c.args.run.now.object o (unplaced c.args.run.now.rows)) (S.Enter P.Refer) c.args.txn.now.overlay.now c.as_slice-told.result.now c.args.answers refl c.as_slice-told.ensures c.in_ok-records.field-0 (Came c.in-Came.records) c.in_ok-records.ensures c.in-Came.is

pub returns-in-Wants : goal.returns-in-Wants
returns-in-Wants c = λ triggers. (
  made (site_of c.args.schema.now c.args.ticket) triggers (at c.args.run.now (S.Load c.args.answers)) c.args.txn.now c.args.object.now c.requires.object
      (λ overlay o. load (site_of c.args.schema.now c.args.ticket) overlay c.args.run.now.act c.args.run.now.by c.args.run.now.object o (unplaced c.args.run.now.rows)) (S.Enter P.Refer) c.args.txn.now.overlay.now c.as_slice-told.result.now c.args.answers refl c.as_slice-told.ensures c.in_ok-records.field-0 (Wants c.in-Wants.question) c.in_ok-records.ensures c.in-Wants.is,
  refl,
  refl,
)
