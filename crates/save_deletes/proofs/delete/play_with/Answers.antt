use Rattle.std.proofs.Common.{refl}
use Rattle.save_deletes.proofs.Down.{play_found, play_wants}
use Rattle.save_deletes.proofs.delete.play_with.Goals as goal

pub returns : goal.returns
returns c =
    play_found c.args.schema.now c.args.overlay.now c.args.records.now c.as_slice.result.now c.args.levels c.as_slice-2.result.now c.args.answers.now c.naming_gone.new.answers c.in_ok-question.field-0 c.as_slice.ensures c.as_slice-2.ensures
    c.in_ok-question.ensures c.in-Found.found c.as_slice-3.result.now c.settle_found.new.records c.in-Found.is c.as_slice-3.ensures c.in_ok-settle_found.ensures

pub returns-in-Wants : goal.returns-in-Wants
returns-in-Wants c = (
  play_wants c.args.schema.now c.args.overlay.now c.args.records.now c.as_slice.result.now c.args.levels c.as_slice-2.result.now c.args.answers.now c.naming_gone.new.answers c.in_ok-question.field-0 c.as_slice.ensures c.as_slice-2.ensures
      c.in_ok-question.ensures c.in-Wants.question c.in-Wants.is,
  refl,
)
