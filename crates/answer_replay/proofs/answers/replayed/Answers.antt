use Rattle.std.proofs.Common.{sym, subst}
use Rattle.save_statements.specs.declared.run.Replayed.TheVariants.{Came, Wants}
use Rattle.answer_replay.specs.Playing.{Plays}
use Rattle.answer_replay.proofs.Composing.{replayed_found, replayed_wants}
use Rattle.answer_replay.proofs.answers.replayed.Goals as goal

pub returns-in-Found : goal.returns-in-Found
returns-in-Found c = λ i before after p. sym (replayed_found Came Wants i before after c.in-Found.records (subst (λ x. Plays i before x after) c.in-Found.is p))

pub returns-in-Wants : goal.returns-in-Wants
returns-in-Wants c = λ i before after p. sym (replayed_wants Came Wants i before after c.in-Wants.question (subst (λ x. Plays i before x after) c.in-Wants.is p))
