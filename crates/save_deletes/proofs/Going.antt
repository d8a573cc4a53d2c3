-- Inquiries for lists that are played item by item.
use Rattle.std.proofs.Common.{◌≡◌, refl, sym, ap, subst, ◌∙◌, append_assoc, List, [], ◌∷◌, ◌++◌}
use Rattle.apex_rows.specs.declared.query.Question.{Question}
use Rattle.apex_rows.specs.declared.query.Answer.{Answer}
use Rattle.store_inquiries.specs.Inquiries.{Inquiry, Found, Asked, and_then, replayed}
use Rattle.answer_replay.specs.declared.answers.Comes.{Comes}
use Rattle.answer_replay.specs.declared.answers.Comes.TheVariants as C
use Rattle.answer_replay.specs.Playing.{left_by, Plays}
use Rattle.answer_replay.proofs.Composing.{finds, found_first, found_last, wants_first, wants_on}

-- what an inquiry for a list comes to, behind some items
abbrev pub prefixed : {A : Type 0} → List A → Comes (List A) → Comes (List A)
prefixed so_far (C.Found more) = C.Found (so_far ++ more)
prefixed so_far (C.Wants q) = C.Wants q

-- whatever the rest comes to on the answers that are left now, the whole came to that behind what was found so far
abbrev pub GoesOn : {A : Type 0} → Inquiry (List A) → List Answer → Inquiry (List A) → List Answer → List A → Type 0
GoesOn {A} whole before rest now so_far = (comes : Comes (List A)) (after : List Answer) → Plays rest now comes after → Plays whole before (prefixed so_far comes) after

module _ {A : Type 0} where
  nothing_before : (comes : Comes (List A)) → comes ≡ prefixed [] comes
  nothing_before (C.Found more) = refl
  nothing_before (C.Wants q) = refl

  one_before : (so_far : List A) (a : A) (comes : Comes (List A)) → prefixed so_far (prefixed (a ∷ []) comes) ≡ prefixed (so_far ++ a ∷ []) comes
  one_before so_far a (C.Found more) = ap (λ ms. C.Found ms) (sym (append_assoc so_far (a ∷ []) more))
  one_before so_far a (C.Wants q) = refl

  comes_as : (i : Inquiry (List A)) (before after : List Answer) (comes other : Comes (List A)) → comes ≡ other → Plays i before comes after → Plays i before other after
  comes_as i before after comes other e p = record { comes_to = p.comes_to ∙ e; leaves = p.leaves }

  pub begins : (i : Inquiry (List A)) (before : List Answer) → GoesOn i before i before []
  begins i before comes after p = comes_as i before after comes (prefixed [] comes) (nothing_before comes) p

  pub ends : (whole : Inquiry (List A)) (before now : List Answer) (so_far all : List A) → GoesOn whole before (Found []) now so_far → so_far ++ [] ≡ all → Plays whole before (C.Found all) now
  ends whole before now so_far all h e = comes_as whole before now (C.Found (so_far ++ [])) (C.Found all) (ap (λ ms. C.Found ms) e) (h (C.Found []) now (finds [] now))

  module _ {B : Type 0} (whole : Inquiry (List A)) (before now : List Answer) (so_far : List A) (i : Inquiry B) where
    pub stops : (go : B → Inquiry (List A)) (q : Question) (after : List Answer) (comes : Comes B) → GoesOn whole before (and_then i go) now so_far → comes ≡ C.Wants q → Plays i now comes after → Plays whole before (C.Wants q) after
    stops go q after comes h e p = h (C.Wants q) after (wants_on i go now after comes q e p)

    more_behind : (j : Inquiry (List A)) (a : A) (from after : List Answer) (comes : Comes (List A)) → Plays j from comes after → Plays (and_then j (λ more. Found (a ∷ more))) from (prefixed (a ∷ []) comes) after
    more_behind j a from after (C.Found more) p = found_last j (λ ms. a ∷ ms) from after more (a ∷ more) p refl
    more_behind j a from after (C.Wants q) p = wants_first j (λ ms. Found (a ∷ ms)) from after q p

    pub goes_further : (item : B → A) (rest : B → Inquiry (List A)) (b : B) (then : List Answer) (came : Comes B) →
        GoesOn whole before (and_then i (λ x. and_then (rest x) (λ more. Found (item x ∷ more)))) now so_far → came ≡ C.Found b → Plays i now came then → GoesOn whole before (rest b) then (so_far ++ item b ∷ [])
    goes_further item rest b then came h e p comes after r =
        comes_as whole before after (prefixed so_far (prefixed (item b ∷ []) comes)) (prefixed (so_far ++ item b ∷ []) comes) (one_before so_far (item b) comes)
        (h (prefixed (item b ∷ []) comes) after
        (found_first i (λ x. and_then (rest x) (λ more. Found (item x ∷ more))) now then after b (prefixed (item b ∷ []) comes) (subst (λ x. Plays i now x then) e p) (more_behind (rest b) (item b) then after comes r)))

-- ---- inquiries that come to the same

pub record Same {A : Type 0} (i j : Inquiry A) : Type 0 where
  pub comes_to : (before : List Answer) → replayed C.Found C.Wants i before ≡ replayed C.Found C.Wants j before
  pub leaves : (before : List Answer) → left_by i before ≡ left_by j before

pub same_plays : {A : Type 0} (i j : Inquiry A) (before after : List Answer) (comes : Comes A) → Same i j → Plays i before comes after → Plays j before comes after
same_plays i j before after comes s p = record { comes_to = sym (s.comes_to before) ∙ p.comes_to; leaves = sym (s.leaves before) ∙ p.leaves }

pub same_then : {A : Type 0} (i j k : Inquiry A) → Same i j → Same j k → Same i k
same_then i j k s t = record { comes_to = λ before. s.comes_to before ∙ t.comes_to before; leaves = λ before. s.leaves before ∙ t.leaves before }

module _ {A B D : Type 0} (f : A → Inquiry B) (g : B → Inquiry D) where
  assoc_comes : (i : Inquiry A) (before : List Answer) → replayed C.Found C.Wants (and_then (and_then i f) g) before ≡ replayed C.Found C.Wants (and_then i (λ a. and_then (f a) g)) before
  assoc_comes (Found a) before = refl
  assoc_comes (Asked q next) [] = refl
  assoc_comes (Asked q next) (a ∷ before) = assoc_comes (next a) before

  assoc_leaves : (i : Inquiry A) (before : List Answer) → left_by (and_then (and_then i f) g) before ≡ left_by (and_then i (λ a. and_then (f a) g)) before
  assoc_leaves (Found a) before = refl
  assoc_leaves (Asked q next) [] = refl
  assoc_leaves (Asked q next) (a ∷ before) = assoc_leaves (next a) before

  pub in_turn : (i : Inquiry A) → Same (and_then (and_then i f) g) (and_then i (λ a. and_then (f a) g))
  in_turn i = record { comes_to = assoc_comes i; leaves = assoc_leaves i }

module _ {A B : Type 0} (f g : A → Inquiry B) (same : (a : A) → Same (f a) (g a)) where
  behind_comes : (i : Inquiry A) (before : List Answer) → replayed C.Found C.Wants (and_then i f) before ≡ replayed C.Found C.Wants (and_then i g) before
  behind_comes (Found a) before = (same a).comes_to before
  behind_comes (Asked q next) [] = refl
  behind_comes (Asked q next) (a ∷ before) = behind_comes (next a) before

  behind_leaves : (i : Inquiry A) (before : List Answer) → left_by (and_then i f) before ≡ left_by (and_then i g) before
  behind_leaves (Found a) before = (same a).leaves before
  behind_leaves (Asked q next) [] = refl
  behind_leaves (Asked q next) (a ∷ before) = behind_leaves (next a) before

  pub behind : (i : Inquiry A) → Same (and_then i f) (and_then i g)
  behind i = record { comes_to = behind_comes i; leaves = behind_leaves i }
