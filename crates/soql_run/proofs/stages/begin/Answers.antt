use Rattle.std.proofs.Common.{◌≡◌, true, sym, subst}
use Rattle.apex_num.specs.declared.kind.LimitKind.TheVariants.{Queries}
use Rattle.query_meaning.specs.Queries.{all_numbers}
use Rattle.query_moves.specs.Moves.{Goes, at, begun, charged}
use Rattle.query_moves.specs.declared.run.QueryStage.TheVariants as S
use Rattle.soql_run.specs.Doings.{IsDone}
use Rattle.soql_run.proofs.stages.begin.Goals as goal

pub returns-then-all_numbers : goal.returns-then-all_numbers
returns-then-all_numbers c =
    let numbers : all_numbers c.args.run.now.binds c.args.run.now.query ≡ true = cc in
    subst (λ b. IsDone c.args.run.now c.args.txn.now (begun b c.args.run.now c.args.txn.now) c.go_on.result c.go_on.new.run c.charge-charged.new.txn) (sym numbers)
    (subst (λ xs. IsDone c.args.run.now c.args.txn.now (charged Queries 1 c.args.txn.now (λ v. Goes (at c.args.run.now (S.Find xs)) v)) c.go_on.result c.go_on.new.run c.charge-charged.new.txn) c.new.ensures
    (c.go_on.ensures (charged Queries 1 c.args.txn.now) c.args.run.now c.args.txn.now c.charge-charged.new.txn c.charge-charged.ensures.exact))
