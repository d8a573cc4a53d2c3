use Rattle.std.proofs.Common.{rules, ◌≡◌, ◌+◌, take, Err, subst, sym}
use Rattle.save_requests.specs.Saves.{OnlyRecords}
use Rattle.save_requests.proofs.RecordSteps.{record_more, no_records}
use Rattle.save_requests.proofs.records.records.Goals as goal

pub returns-in_err-record : goal.returns-in_err-record
returns-in_err-record c =
    let end = c.in_err-record.field-0.0 in
    let e : c.from_residual.result ≡ Err end = search rules in
    rw e (no_records c.args.fields.now c.args.rows.now c.rows.i c.index-rows-i.result c.rows.all c.rows-test.true c.index-rows-i.is c.rows.invariant end c.in_err-record.ensures)

pub rows-preserved : goal.rows-preserved
rows-preserved c =
    subst (λ l. OnlyRecords c.args.fields.now (take (c.rows.i + 1) c.args.rows.now) l) (sym c.in_ok-push.ensures.ok)
    (record_more c.args.fields.now c.args.rows.now c.rows.i c.index-rows-i.result c.rows.all c.rows-test.true c.index-rows-i.is c.rows.invariant c.in_ok-record.field-0 c.in_ok-record.ensures)
