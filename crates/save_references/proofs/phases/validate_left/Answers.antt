use Rattle.std.proofs.Common.{◌∙◌, ap, length, refl}
use Rattle.save_meaning.specs.Inserts.{is_row_share}
use Rattle.save_statements.specs.Records.{judged}
use Rattle.save_statements.specs.Checks.{invalid}
use Rattle.save_references.proofs.Phasing.{came, asks}
use Rattle.save_references.proofs.phases.validate_left.Goals as goal

pub returns-in_ok-judge_rows-in-Found : goal.returns-in_ok-judge_rows-in-Found
returns-in_ok-judge_rows-in-Found c =
    λ ticket. came c.args.overlay.now (λ f. judged (invalid (length c.args.schema.now.users) (is_row_share c.args.schema.now c.args.number) c.args.object.now f) c.args.records.now) c.as_slice-fields.result.now c.args.object.now.fields
    c.as_slice.result.now c.args.records.now c.args.answers.now c.find_all.new.answers c.in_ok-found.field-0 c.in-Found.found c.judge_rows.new.records c.as_slice-fields.ensures c.as_slice.ensures c.in_ok-found.ensures c.in-Found.is
    (c.in_ok-judge_rows-in-Found.ensures
    ∙ ap (λ u. judged (invalid u c.is_row_share-shares.result c.args.object.now c.as_slice-in-Found.result.now) c.args.records.now) c.len-users.ensures
    ∙ ap (λ b. judged (invalid (length c.args.schema.now.users) b c.args.object.now c.as_slice-in-Found.result.now) c.args.records.now) c.is_row_share-shares.ensures
    ∙ ap (λ f. judged (invalid (length c.args.schema.now.users) (is_row_share c.args.schema.now c.args.number) c.args.object.now f) c.args.records.now) c.as_slice-in-Found.ensures)

pub returns-in-Wants : goal.returns-in-Wants
returns-in-Wants c =
    λ ticket. (
      asks c.args.overlay.now (λ f. judged (invalid (length c.args.schema.now.users) (is_row_share c.args.schema.now c.args.number) c.args.object.now f) c.args.records.now) c.as_slice-fields.result.now c.args.object.now.fields
          c.as_slice.result.now c.args.records.now c.args.answers.now c.find_all.new.answers c.in_ok-found.field-0 c.in-Wants.question c.as_slice-fields.ensures c.as_slice.ensures c.in_ok-found.ensures c.in-Wants.is,
      refl,
    )
