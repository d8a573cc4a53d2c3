-- What the stages that ask come to.
use Rattle.std.proofs.Common.{◌≡◌, List, [], ◌∷◌, refl, sym, ap, ◌∙◌}
use Rattle.apex_rows.specs.declared.query.Answer.{Answer}
use Rattle.apex_rows.specs.declared.query.Question.{Question}
use Rattle.answer_replay.specs.declared.answers.Comes.{Comes}
use Rattle.answer_replay.specs.declared.answers.Comes.TheVariants as C
use Rattle.store_inquiries.specs.Inquiries.{Inquiry, Found, Asked, replayed}

-- what is made of what an inquiry comes to
abbrev on_comes : {A R : Type 0} → (A → R) → (Question → R) → Comes A → R
on_comes came wants (C.Found a) = came a
on_comes came wants (C.Wants q) = wants q

replayed_by : {A R : Type 0} → (came : A → R) (wants : Question → R) (i : Inquiry A) (answers : List Answer) → replayed came wants i answers ≡ on_comes came wants (replayed C.Found C.Wants i answers)
replayed_by came wants (Found a) answers = refl
replayed_by came wants (Asked q next) [] = refl
replayed_by came wants (Asked q next) (a ∷ answers) = replayed_by came wants (next a) answers

-- where it was found out on these answers
pub made : {A R : Type 0} → (came : A → R) (wants : Question → R) (i : Inquiry A) (given answers : List Answer) (comes to : Comes A) → given ≡ answers → replayed C.Found C.Wants i given ≡ comes → comes ≡ to → replayed came wants i answers ≡ on_comes came wants to
made came wants i given answers comes to same is e =
    ap (λ xs. replayed came wants i xs) (sym same) ∙ replayed_by came wants i given ∙ ap (on_comes came wants) (is ∙ e)
