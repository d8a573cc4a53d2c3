-- What inquiries come to on the answers that are left (docs/platform.md, "Questions").
use Rattle.std.specs.Prelude.{◌≡◌, List, [], ◌∷◌}
use Rattle.apex_rows.specs.declared.query.Answer.{Answer}
use Rattle.store_inquiries.specs.Inquiries.{Inquiry, Found, Asked, replayed}
use Rattle.save_statements.specs.declared.pending.Record.{Record}
use Rattle.save_statements.specs.declared.run.Replayed.TheVariants.{Came, Wants}
use Rattle.save_statements.specs.Inquiries as Phases
use Rattle.answer_replay.specs.declared.answers.Comes.{Comes}
use Rattle.answer_replay.specs.declared.answers.Comes.TheVariants as C

-- the answers that an inquiry leaves behind it; where it wants one question more answered, none is left
abbrev pub left_by : {A : Type 0} → Inquiry A → List Answer → List Answer
left_by (Found a) answers = answers
left_by (Asked q next) [] = []
left_by (Asked q next) (a ∷ answers) = left_by (next a) answers

-- on the answers that were left it comes to this, and these are left behind it
pub record Plays {A : Type 0} (i : Inquiry A) (before : List Answer) (comes : Comes A) (after : List Answer) : Type 0 where
  pub comes_to : replayed C.Found C.Wants i before ≡ comes
  pub leaves : left_by i before ≡ after

-- what it finds takes the place of what was there, which stays where it wants one question more answered
abbrev pub PlaysInto : {A : Type 0} → Inquiry A → List Answer → Comes (Unit {0}) → A → A → List Answer → Type 0
PlaysInto i before (C.Found u) old new after = Plays i before (C.Found new) after
PlaysInto i before (C.Wants q) old new after = Plays i before (C.Wants q) after × (new ≡ old)

-- a phase that is made on all its answers: the records that it comes to take the place of those that it had, or these stay and it
-- asks
abbrev pub Replays : Inquiry (List Record) → List Answer → Comes (Unit {0}) → List Record → List Record → Type 0
Replays i answers (C.Found u) old new = Phases.replayed i answers ≡ Came new
Replays i answers (C.Wants q) old new = (Phases.replayed i answers ≡ Wants q) × (new ≡ old)
