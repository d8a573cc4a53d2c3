use Rattle.std.proofs.Common.{◌∙◌, ap, length, refl}
use Rattle.save_statements.specs.Records.{judged, changed_to}
use Rattle.save_statements.specs.Checks.{bad_reference, seen_now}
use Rattle.save_references.proofs.Phasing.{came, asks}
use Rattle.save_references.proofs.phases.refer_left.Goals as goal

pub returns-in_ok-judge_references-in-Found : goal.returns-in_ok-judge_references-in-Found
returns-in_ok-judge_references-in-Found c =
    λ ticket. came c.args.overlay.now (λ f. changed_to seen_now (judged (bad_reference (length c.args.schema.now.users) c.args.object.now f) c.args.records.now)) c.as_slice-fields.result.now c.args.object.now.fields
    c.as_slice.result.now c.args.records.now c.args.answers.now c.find_all.new.answers c.in_ok-found.field-0 c.in-Found.found c.judge_references.new.records c.as_slice-fields.ensures c.as_slice.ensures c.in_ok-found.ensures c.in-Found.is
    (c.in_ok-judge_references-in-Found.ensures
    ∙ ap (λ u. changed_to seen_now (judged (bad_reference u c.args.object.now c.as_slice-in-Found.result.now) c.args.records.now)) c.len-users.ensures
    ∙ ap (λ f. changed_to seen_now (judged (bad_reference (length c.args.schema.now.users) c.args.object.now f) c.args.records.now)) c.as_slice-in-Found.ensures)

pub returns-in-Wants : goal.returns-in-Wants
returns-in-Wants c =
    λ ticket. (
      asks c.args.overlay.now (λ f. changed_to seen_now (judged (bad_reference (length c.args.schema.now.users) c.args.object.now f) c.args.records.now)) c.as_slice-fields.result.now c.args.object.now.fields
          c.as_slice.result.now c.args.records.now c.args.answers.now c.find_all.new.answers c.in_ok-found.field-0 c.in-Wants.question c.as_slice-fields.ensures c.as_slice.ensures c.in_ok-found.ensures c.in-Wants.is,
      refl,
    )
