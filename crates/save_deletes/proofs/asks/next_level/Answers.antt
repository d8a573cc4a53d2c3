use Rattle.std.proofs.lemmas.Result.{IfOk-weaker}
use Rattle.answer_replay.proofs.Composing.{wants_on}
use Rattle.save_statements.specs.Checks.{found_rows, naming_all}
use Rattle.save_deletes.specs.Downward.{held_rows}
use Rattle.save_deletes.proofs.Down.{then_plays}
use Rattle.save_deletes.proofs.asks.next_level.Goals as goal

pub returns-in-Wants : goal.returns-in-Wants
returns-in-Wants c = λ rows heads.
    wants_on (naming_all c.args.overlay.now c.args.masters.now rows) (λ found. held_rows c.args.ticket (found_rows found)) c.args.answers.now c.naming_all.new.answers _ c.in-Wants.question c.in-Wants.is (c.in_ok-question.ensures rows heads)

pub returns-in-Found : goal.returns-in-Found
returns-in-Found c =
    IfOk-weaker c.hold_found.result _ _
    (λ comes h rows heads.
    then_plays (naming_all c.args.overlay.now c.args.masters.now rows) (λ found. held_rows c.args.ticket (found_rows found)) c.args.answers.now c.naming_all.new.answers c.hold_found.new.answers _ c.in-Found.found c.in-Found.is
    (c.in_ok-question.ensures rows heads) comes h) c.hold_found.ensures
