use Rattle.std.proofs.Common.{sym, subst, ◌∙◌}
use Rattle.std.proofs.lemmas.Result.{IfOk-weaker}
use Rattle.save_statements.specs.declared.run.Stage.TheVariants as S
use Rattle.save_firings.specs.Tables.{listed}
use Rattle.save_stages.specs.Does.{Does, site_of}
use Rattle.save_moves.proofs.Goes.{at_stage}
use Rattle.save_moves.proofs.run.move_once.Goals as goal

pub returns-in-Count : goal.returns-in-Count
returns-in-Count c =
    IfOk-weaker c.count.result _ _
    (λ m h. subst (λ r. Does c.args.schema.now c.args.ticket (listed c.args.table.now) r c.args.txn.now m c.count.new.run c.count.new.txn)
    (at_stage c.args.run.now (S.Count c.in-Count.rows) (sym c.in-Count.is ∙ c.replace.ensures.value)) h) c.count.ensures

pub returns-in-Load : goal.returns-in-Load
returns-in-Load c =
    IfOk-weaker c.load.result _ _
    (λ m h. subst (λ r. Does c.args.schema.now c.args.ticket (listed c.args.table.now) r c.args.txn.now m c.load.new.run c.args.txn.now)
    (at_stage c.args.run.now (S.Load c.in-Load.answers) (sym c.in-Load.is ∙ c.replace.ensures.value)) (h (listed c.args.table.now))) c.load.ensures

pub returns-in-Enter : goal.returns-in-Enter
returns-in-Enter c =
    IfOk-weaker c.enter.result _ _
    (λ m h. subst (λ r. Does c.args.schema.now c.args.ticket (listed c.args.table.now) r c.args.txn.now m c.enter.new.run c.enter.new.txn)
    (at_stage c.args.run.now (S.Enter c.in-Enter.phase c.in-Enter.records) (sym c.in-Enter.is ∙ c.replace.ensures.value)) (h (site_of c.args.schema.now c.args.ticket))) c.enter.ensures

pub returns-in-Refer : goal.returns-in-Refer
returns-in-Refer c =
    IfOk-weaker c.refer.result _ _
    (λ m h. subst (λ r. Does c.args.schema.now c.args.ticket (listed c.args.table.now) r c.args.txn.now m c.refer.new.run c.args.txn.now)
    (at_stage c.args.run.now (S.Refer c.in-Refer.records c.in-Refer.answers) (sym c.in-Refer.is ∙ c.replace.ensures.value)) (h (listed c.args.table.now))) c.refer.ensures

pub returns-in-Validate : goal.returns-in-Validate
returns-in-Validate c =
    IfOk-weaker c.validate.result _ _
    (λ m h. subst (λ r. Does c.args.schema.now c.args.ticket (listed c.args.table.now) r c.args.txn.now m c.validate.new.run c.args.txn.now)
    (at_stage c.args.run.now (S.Validate c.in-Validate.records c.in-Validate.answers) (sym c.in-Validate.is ∙ c.replace.ensures.value)) (h (listed c.args.table.now))) c.validate.ensures

pub returns-in-Write : goal.returns-in-Write
returns-in-Write c =
    IfOk-weaker c.write.result _ _
    (λ m h. subst (λ r. Does c.args.schema.now c.args.ticket (listed c.args.table.now) r c.args.txn.now m c.write.new.run c.write.new.txn)
    (at_stage c.args.run.now (S.Write c.in-Write.before c.in-Write.left) (sym c.in-Write.is ∙ c.replace.ensures.value)) (h (listed c.args.table.now))) c.write.ensures
