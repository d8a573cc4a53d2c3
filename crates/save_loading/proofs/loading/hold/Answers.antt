use Rattle.std.proofs.Common.{ap, ◌∙◌}
use Rattle.save_meaning.specs.Inserts.{ids_of}
use Rattle.save_statements.specs.Records.{going, rows_of}
use Rattle.save_statements.specs.Statements.{unplaced}
use Rattle.save_loading.proofs.Parts.{held_wants, held_found}
use Rattle.save_loading.proofs.loading.hold.Goals as goal

pub returns-in-Wants : goal.returns-in-Wants
returns-in-Wants c =
    held_wants c.args.ticket c.args.act c.args.by c.args.object.now (unplaced c.args.rows.now) c.args.answers.now c.grab.new.answers c.args.records c.as_slice-2.result.now _
    (c.as_slice-2.ensures ∙ c.in_ok-ids.ensures ∙ ap (λ rs. ids_of (rows_of (going rs))) c.as_slice.ensures) c.in_ok-question.ensures c.in-Wants.question c.in-Wants.is

pub returns-in_ok-next-in-Found : goal.returns-in_ok-next-in-Found
returns-in_ok-next-in-Found c =
    held_found c.args.ticket c.args.act c.args.by c.args.object.now (unplaced c.args.rows.now) c.args.answers.now c.grab.new.answers c.args.records c.as_slice-2.result.now _
    (c.as_slice-2.ensures ∙ c.in_ok-ids.ensures ∙ ap (λ rs. ids_of (rows_of (going rs))) c.as_slice.ensures) c.in_ok-question.ensures
    tt c.in_ok-next-in-Found.next c.in-Found.is c.in_ok-next-in-Found.ensures
