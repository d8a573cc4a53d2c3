use Rattle.save_statements.specs.Statements.{unplaced}
use Rattle.save_loading.proofs.Parts.{access_wants, access_found}
use Rattle.save_loading.proofs.loading.load_found.Goals as goal

pub returns-in-Wants : goal.returns-in-Wants
returns-in-Wants c =
    access_wants (record { schema = c.args.schema.now; ticket = c.args.ticket }) c.args.overlay.now c.args.act c.args.by c.args.object.now (unplaced c.args.rows.now) c.args.answers.now c.admitted.new.answers
    c.args.found c.admitted.new.answers c.in_ok-records.records _ c.in_ok-records.ensures c.in_ok-question.ensures c.in-Wants.question c.in-Wants.is

pub returns-in-Found : goal.returns-in-Found
returns-in-Found c =
    access_found (record { schema = c.args.schema.now; ticket = c.args.ticket }) c.args.overlay.now c.args.act c.args.by c.args.object.now (unplaced c.args.rows.now) c.args.answers.now c.hold.new.answers
    c.args.found c.admitted.new.answers c.in_ok-records.records _ c.in_ok-records.ensures c.in_ok-question.ensures c.in-Found.records c.hold.result c.in-Found.is c.hold.ensures
