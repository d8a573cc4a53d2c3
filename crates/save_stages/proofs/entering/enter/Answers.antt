use Rattle.std.proofs.Common.{◌≡◌, length, arith}
use Rattle.std.proofs.lemmas.Grind.{common_steps}
use Rattle.save_statements.specs.declared.run.Stage.TheVariants as S
use Rattle.save_statements.specs.Records.{going}
use Rattle.save_firings.specs.Tables.{listed}
use Rattle.save_stages.proofs.Phases.{enters}
use Rattle.save_stages.proofs.entering.enter.Goals as goal

pub returns-in_ok-run-in-Ok : goal.returns-in_ok-run-in-Ok
returns-in_ok-run-in-Ok c =
    λ site.
    let n : c.count_going-count.result ≡ length (going c.args.records) = grind (arith, common_steps) in
    enters site (listed c.args.table.now) c.args.phase c.args.records c.args.run.now (S.Enter c.args.phase c.args.records) (going c.args.records) c.args.txn.now c.count_going-count.result _
    c.in_ok-run-in-Ok.field-0 n (λ e. grind (arith, common_steps)) c.in-Ok.ensures.answer.0 c.in-Ok.ensures.answer.1 (c.in_ok-run-in-Ok.ensures site)
