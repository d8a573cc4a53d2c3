use Rattle.std.proofs.Common.{subst}
use Rattle.apex_rows.specs.declared.query.Query.TheViews.{out-Query}
use Rattle.query_meaning.specs.Queries.{rows_in}
use Rattle.query_moves.specs.Moves.{Goes, at, charged_rows}
use Rattle.query_moves.specs.declared.run.QueryStage.TheVariants as S
use Rattle.save_stages.specs.Does.{site_of}
use Rattle.soql_run.specs.Charging.{Charges}
use Rattle.soql_run.specs.Doings.{IsDone}
use Rattle.soql_run.proofs.stages.came.Goals as goal

pub returns : goal.returns
returns c = λ ticket before.
    subst (λ xs. IsDone before c.args.txn.now (charged_rows (site_of c.args.schema.now ticket) (out-Query c.args.run.now.query).counted (rows_in c.args.found) c.args.txn.now (λ v. Goes (at c.args.run.now (S.Hold c.args.found xs)) v)) c.go_on.result c.go_on.new.run c.charge_rows-charged.new.txn) c.new.ensures
    (c.go_on.ensures (charged_rows (site_of c.args.schema.now ticket) (out-Query c.args.run.now.query).counted (rows_in c.args.found) c.args.txn.now) before c.args.txn.now c.charge_rows-charged.new.txn
    (subst (λ q. Charges (charged_rows (site_of c.args.schema.now ticket) (out-Query q).counted (rows_in c.args.found) c.args.txn.now) c.charge_rows-charged.result c.charge_rows-charged.new.txn) c.get.ensures
    (subst (λ fs. Charges (charged_rows (site_of c.args.schema.now ticket) (out-Query c.get.result.now).counted (rows_in fs) c.args.txn.now) c.charge_rows-charged.result c.charge_rows-charged.new.txn) c.as_slice.ensures
    (c.charge_rows-charged.ensures ticket))))
