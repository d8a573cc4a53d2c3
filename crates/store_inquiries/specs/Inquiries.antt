-- What is found out by questions to a tenant's store (docs/platform.md, "Questions").
use Rattle.std.specs.Prelude.{List, [], ◌∷◌}
use Rattle.apex_rows.specs.declared.query.Question.{Question}
use Rattle.apex_rows.specs.declared.query.Answer.{Answer}
use Rattle.apex_rows.specs.declared.row.Row.{Row}
use Rattle.record_store.specs.Places.{answer_to}
use Rattle.save_meaning.specs.Results.{Needs, Closes, Res, Gives, Stops, bind}
use Rattle.save_meaning.specs.Transactions.{Keeps, ask}

-- something is found, or a question is asked, and its answer leads on
pub data Inquiry (A : Type 0) : Type 0 where
  Found : A → Inquiry A
  Asked : Question → (Answer → Inquiry A) → Inquiry A

-- one inquiry behind another
abbrev pub and_then : {A B : Type 0} → Inquiry A → (A → Inquiry B) → Inquiry B
and_then (Found a) go = go a
and_then (Asked q next) go = Asked q (λ answer. and_then (next answer) go)

-- its questions are asked where a request keeps its answers
abbrev pub inquire : {S E A : Type 0} → Keeps S → Inquiry A → S → Res S E A
inquire keeps (Found a) s = Gives a s
inquire keeps (Asked q next) s = bind (ask keeps q s) (λ answer s1. inquire keeps (next answer) s1)

-- a state with these answers left
abbrev pub with_tape : {S : Type 0} → Keeps S → List Answer → S → S
with_tape keeps tape s = keeps.with_txn (record (keeps.txn s) { tape = tape }) s

-- what it comes to on a tape: each question takes the next answer, and nothing else changes
abbrev pub on_tape : {S E A : Type 0} → Keeps S → Inquiry A → List Answer → S → Res S E A
on_tape keeps (Found a) tape s = Gives a (with_tape keeps tape s)
on_tape keeps (Asked q next) [] s = Stops (Closes (Needs q)) (with_tape keeps [] s)
on_tape keeps (Asked q next) (a ∷ tape) s = on_tape keeps (next a) tape s

-- ---- on a list of answers

-- what it comes to on the answers that it had so far: something of what it finds, or of the question that it wants answered next
abbrev pub replayed : {A R : Type 0} → (A → R) → (Question → R) → Inquiry A → List Answer → R
replayed came wants (Found a) answers = came a
replayed came wants (Asked q next) [] = wants q
replayed came wants (Asked q next) (a ∷ answers) = replayed came wants (next a) answers

-- what is left of it behind these answers
abbrev pub after : {A : Type 0} → Inquiry A → List Answer → Inquiry A
after i [] = i
after (Found a) (x ∷ answers) = Found a
after (Asked q next) (x ∷ answers) = after (next x) answers

-- ---- where a store answers

-- what it finds where a store of these rows answers
abbrev pub of_store : {A : Type 0} → List Row → Inquiry A → A
of_store rows (Found a) = a
of_store rows (Asked q next) = of_store rows (next (answer_to rows q))

-- the answers that such a store gives to its questions, one after the other
abbrev pub told : {A : Type 0} → List Row → Inquiry A → List Answer
told rows (Found a) = []
told rows (Asked q next) = answer_to rows q ∷ told rows (next (answer_to rows q))
