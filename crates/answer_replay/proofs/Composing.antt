-- Inquiries that are played one behind the other.
use Rattle.std.proofs.Common.{◌≡◌, refl, sym, ap, subst, ◌∙◌, List, [], ◌∷◌}
use Rattle.std.specs.Prelude.{Result, Ok, Err, IfOk}
use Rattle.apex_rows.specs.declared.query.Question.{Question}
use Rattle.apex_rows.specs.declared.query.Answer.{Answer}
use Rattle.store_inquiries.specs.Inquiries.{Inquiry, Found, Asked, and_then, replayed}
use Rattle.save_statements.specs.declared.pending.Record.{Record}
use Rattle.save_statements.specs.declared.run.Replayed.TheVariants.{Came, Wants}
use Rattle.answer_replay.specs.declared.answers.Comes.{Comes}
use Rattle.answer_replay.specs.declared.answers.Comes.TheVariants as C
use Rattle.answer_replay.specs.Playing.{left_by, Plays, PlaysInto, Replays}

-- ---- one inquiry

pub finds : {A : Type 0} (a : A) (before : List Answer) → Plays (Found a) before (C.Found a) before
finds a before = record { comes_to = refl; leaves = refl }

-- no answer is left for its question
pub wants : {A : Type 0} (q : Question) (next : Answer → Inquiry A) (before after : List Answer) → before ≡ [] → after ≡ [] → Plays (Asked q next) before (C.Wants q) after
wants q next before after b a = record {
  comes_to = ap (λ t. replayed C.Found C.Wants (Asked q next) t) b;
  leaves = ap (λ t. left_by (Asked q next) t) b ∙ sym a;
}

-- its question takes the next answer
pub takes : {A : Type 0} (q : Question) (next : Answer → Inquiry A) (before rest after : List Answer) (a : Answer) (comes : Comes A) →
    before ≡ a ∷ rest → Plays (next a) rest comes after → Plays (Asked q next) before comes after
takes q next before rest after a comes b p = record {
  comes_to = ap (λ t. replayed C.Found C.Wants (Asked q next) t) b ∙ p.comes_to;
  leaves = ap (λ t. left_by (Asked q next) t) b ∙ p.leaves;
}

-- its question takes the next answer, and it finds something by it
pub takes_last : {A : Type 0} (q : Question) (find : Answer → A) (before rest : List Answer) (a : Answer) (found : A) →
    before ≡ a ∷ rest → find a ≡ found → Plays (Asked q (λ x. Found (find x))) before (C.Found found) rest
takes_last q find before rest a found b e = takes q (λ x. Found (find x)) before rest rest a (C.Found found) b (record { comes_to = ap (λ x. C.Found x) e; leaves = refl })

-- ---- one behind another

module _ {A B : Type 0} where
  wants_to : (i : Inquiry A) (go : A → Inquiry B) (before : List Answer) (q : Question) → replayed C.Found C.Wants i before ≡ C.Wants q →
      replayed C.Found C.Wants (and_then i go) before ≡ C.Wants q
  wants_to (Found a) go before q e = absurd (cc)
  wants_to (Asked r next) go [] q e = let s : r ≡ q = cc in ap (λ x. C.Wants x) s
  wants_to (Asked r next) go (a ∷ before) q e = wants_to (next a) go before q e

  wants_left : (i : Inquiry A) (go : A → Inquiry B) (before : List Answer) (q : Question) → replayed C.Found C.Wants i before ≡ C.Wants q → left_by (and_then i go) before ≡ left_by i before
  wants_left (Found a) go before q e = absurd (cc)
  wants_left (Asked r next) go [] q e = refl
  wants_left (Asked r next) go (a ∷ before) q e = wants_left (next a) go before q e

  found_to : (i : Inquiry A) (go : A → Inquiry B) (a : A) (before : List Answer) → replayed C.Found C.Wants i before ≡ C.Found a →
      replayed C.Found C.Wants (and_then i go) before ≡ replayed C.Found C.Wants (go a) (left_by i before)
  found_to (Found b) go a before e = let s : b ≡ a = cc in ap (λ x. replayed C.Found C.Wants (go x) before) s
  found_to (Asked r next) go a [] e = absurd (cc)
  found_to (Asked r next) go a (x ∷ before) e = found_to (next x) go a before e

  found_left : (i : Inquiry A) (go : A → Inquiry B) (a : A) (before : List Answer) → replayed C.Found C.Wants i before ≡ C.Found a →
      left_by (and_then i go) before ≡ left_by (go a) (left_by i before)
  found_left (Found b) go a before e = let s : b ≡ a = cc in ap (λ x. left_by (go x) before) s
  found_left (Asked r next) go a [] e = absurd (cc)
  found_left (Asked r next) go a (x ∷ before) e = found_left (next x) go a before e

  -- the first one wants an answer, and so the whole does
  pub wants_first : (i : Inquiry A) (go : A → Inquiry B) (before after : List Answer) (q : Question) → Plays i before (C.Wants q) after → Plays (and_then i go) before (C.Wants q) after
  wants_first i go before after q p = record { comes_to = wants_to i go before q p.comes_to; leaves = wants_left i go before q p.comes_to ∙ p.leaves }

  -- the first one finds something, and the second one goes on with the answers that are left
  pub found_first : (i : Inquiry A) (go : A → Inquiry B) (before between after : List Answer) (a : A) (comes : Comes B) → Plays i before (C.Found a) between → Plays (go a) between comes after →
      Plays (and_then i go) before comes after
  found_first i go before between after a comes p r = record {
    comes_to = found_to i go a before p.comes_to ∙ ap (λ t. replayed C.Found C.Wants (go a) t) p.leaves ∙ r.comes_to;
    leaves = found_left i go a before p.comes_to ∙ ap (λ t. left_by (go a) t) p.leaves ∙ r.leaves;
  }

  -- the first one finds something, and the second one takes it to what the whole finds
  pub found_last : (i : Inquiry A) (go : A → B) (before after : List Answer) (a : A) (b : B) → Plays i before (C.Found a) after → go a ≡ b →
      Plays (and_then i (λ x. Found (go x))) before (C.Found b) after
  found_last i go before after a b p e = found_first i (λ x. Found (go x)) before after after a (C.Found b) p (record { comes_to = ap (λ x. C.Found x) e; leaves = refl })

  -- both, at a call that is matched on
  pub wants_on : (i : Inquiry A) (go : A → Inquiry B) (before after : List Answer) (comes : Comes A) (q : Question) → comes ≡ C.Wants q → Plays i before comes after →
      Plays (and_then i go) before (C.Wants q) after
  wants_on i go before after comes q e p = wants_first i go before after q (subst (λ x. Plays i before x after) e p)

  pub found_on : {E : Type 0} (i : Inquiry A) (go : A → Inquiry B) (before between after : List Answer) (comes : Comes A) (a : A) (r : Result (Comes B) E) →
      comes ≡ C.Found a → Plays i before comes between → IfOk r (λ x. Plays (go a) between x after) → IfOk r (λ x. Plays (and_then i go) before x after)
  found_on i go before between after comes a (Ok x) e p h = found_first i go before between after a x (subst (λ y. Plays i before y between) e p) h
  found_on i go before between after comes a (Err x) e p h = tt

-- ---- at the end

module _ {A R : Type 0} (came : A → R) (asks : Question → R) where
  found_end : (i : Inquiry A) (answers : List Answer) (a : A) → replayed C.Found C.Wants i answers ≡ C.Found a → replayed came asks i answers ≡ came a
  found_end (Found b) answers a e = let s : b ≡ a = cc in ap came s
  found_end (Asked r next) [] a e = absurd (cc)
  found_end (Asked r next) (x ∷ answers) a e = found_end (next x) answers a e

  wants_end : (i : Inquiry A) (answers : List Answer) (q : Question) → replayed C.Found C.Wants i answers ≡ C.Wants q → replayed came asks i answers ≡ asks q
  wants_end (Found b) answers q e = absurd (cc)
  wants_end (Asked r next) [] q e = let s : r ≡ q = cc in ap asks s
  wants_end (Asked r next) (x ∷ answers) q e = wants_end (next x) answers q e

  -- what an inquiry is replayed to, by what it comes to
  pub replayed_found : (i : Inquiry A) (before after : List Answer) (a : A) → Plays i before (C.Found a) after → replayed came asks i before ≡ came a
  replayed_found i before after a p = found_end i before a p.comes_to

  pub replayed_wants : (i : Inquiry A) (before after : List Answer) (q : Question) → Plays i before (C.Wants q) after → replayed came asks i before ≡ asks q
  replayed_wants i before after q p = wants_end i before q p.comes_to

-- a phase that was played on all its answers was made on them
pub replays : (i : Inquiry (List Record)) (answers after : List Answer) (comes : Comes (Unit {0})) (old new : List Record) → PlaysInto i answers comes old new after → Replays i answers comes old new
replays i answers after (C.Found u) old new p = replayed_found Came Wants i answers after new p
replays i answers after (C.Wants q) old new p = (replayed_wants Came Wants i answers after q p.0, p.1)
