-- Inquiries that are played one behind the other.
use Rattle.std.proofs.Common.{◌≡◌, refl, sym, ap, subst, ◌∙◌, append_assoc, List, [], ◌∷◌, ◌++◌}
use Rattle.apex_rows.specs.declared.query.Question.{Question}
use Rattle.apex_rows.specs.declared.query.Answer.{Answer}
use Rattle.store_inquiries.specs.Inquiries.{Inquiry, Found, and_then}
use Rattle.answer_replay.specs.declared.answers.Comes.{Comes}
use Rattle.answer_replay.specs.declared.answers.Comes.TheVariants as C
use Rattle.answer_replay.specs.Playing.{Plays, PlaysInto}
use Rattle.answer_replay.proofs.Composing.{finds, found_first, found_last, wants_first, wants_on}

-- ---- whatever the rest comes to on the answers that are left now, the whole came to

abbrev pub Continues : {A : Type 0} → Inquiry A → List Answer → Inquiry A → List Answer → Type 0
Continues {A} whole before rest now = (comes : Comes A) (after : List Answer) → Plays rest now comes after → Plays whole before comes after

module _ {A B : Type 0} (whole : Inquiry A) (before now : List Answer) (i : Inquiry B) (go : B → Inquiry A) (h : Continues whole before (and_then i go) now) (comes : Comes (Unit {0})) (old new : B) (later : List Answer)
    (p : PlaysInto i now comes old new later) where
  -- the next one wants an answer, and so the whole does
  pub wants_next : (q : Question) → comes ≡ C.Wants q → Plays whole before (C.Wants q) later
  wants_next q e = let played : PlaysInto i now (C.Wants q) old new later = subst (λ x. PlaysInto i now x old new later) e p in h (C.Wants q) later (wants_first i go now later q played.0)

  -- the next one finds something
  pub found_next : (u : Unit {0}) → comes ≡ C.Found u → Continues whole before (go new) later
  found_next u e more after r =
      let played : PlaysInto i now (C.Found u) old new later = subst (λ x. PlaysInto i now x old new later) e p in h more after (found_first i go now later after new more played r)

-- ---- lists that are found item by item

-- what an inquiry for a list comes to, behind some items
abbrev pub prefixed : {A : Type 0} → List A → Comes (List A) → Comes (List A)
prefixed so_far (C.Found more) = C.Found (so_far ++ more)
prefixed so_far (C.Wants q) = C.Wants q

-- whatever the rest comes to on the answers that are left now, the whole came to that behind what was found so far
abbrev pub GoesOn : {A : Type 0} → Inquiry (List A) → List Answer → Inquiry (List A) → List Answer → List A → Type 0
GoesOn {A} whole before rest now so_far = (comes : Comes (List A)) (after : List Answer) → Plays rest now comes after → Plays whole before (prefixed so_far comes) after

module _ {A : Type 0} where
  nothing_before : (comes : Comes (List A)) → comes ≡ prefixed [] comes
  nothing_before (C.Found more) = refl
  nothing_before (C.Wants q) = refl

  one_before : (so_far : List A) (a : A) (comes : Comes (List A)) → prefixed so_far (prefixed (a ∷ []) comes) ≡ prefixed (so_far ++ a ∷ []) comes
  one_before so_far a (C.Found more) = ap (λ ms. C.Found ms) (sym (append_assoc so_far (a ∷ []) more))
  one_before so_far a (C.Wants q) = refl

  comes_as : (i : Inquiry (List A)) (before after : List Answer) (comes other : Comes (List A)) → comes ≡ other → Plays i before comes after → Plays i before other after
  comes_as i before after comes other e p = record { comes_to = p.comes_to ∙ e; leaves = p.leaves }

  pub begins : (i : Inquiry (List A)) (before : List Answer) → GoesOn i before i before []
  begins i before comes after p = comes_as i before after comes (prefixed [] comes) (nothing_before comes) p

  pub ends : (whole : Inquiry (List A)) (before now : List Answer) (so_far all : List A) → GoesOn whole before (Found []) now so_far → so_far ++ [] ≡ all → Plays whole before (C.Found all) now
  ends whole before now so_far all h e = comes_as whole before now (C.Found (so_far ++ [])) (C.Found all) (ap (λ ms. C.Found ms) e) (h (C.Found []) now (finds [] now))

  module _ {B : Type 0} (whole : Inquiry (List A)) (before now : List Answer) (so_far : List A) (i : Inquiry B) where
    pub stops : (go : B → Inquiry (List A)) (q : Question) (after : List Answer) (comes : Comes B) → GoesOn whole before (and_then i go) now so_far → comes ≡ C.Wants q → Plays i now comes after → Plays whole before (C.Wants q) after
    stops go q after comes h e p = h (C.Wants q) after (wants_on i go now after comes q e p)

    more_behind : (j : Inquiry (List A)) (a : A) (from after : List Answer) (comes : Comes (List A)) → Plays j from comes after → Plays (and_then j (λ more. Found (a ∷ more))) from (prefixed (a ∷ []) comes) after
    more_behind j a from after (C.Found more) p = found_last j (λ ms. a ∷ ms) from after more (a ∷ more) p refl
    more_behind j a from after (C.Wants q) p = wants_first j (λ ms. Found (a ∷ ms)) from after q p

    pub goes_further : (item : B → A) (rest : B → Inquiry (List A)) (b : B) (then : List Answer) (came : Comes B) →
        GoesOn whole before (and_then i (λ x. and_then (rest x) (λ more. Found (item x ∷ more)))) now so_far → came ≡ C.Found b → Plays i now came then → GoesOn whole before (rest b) then (so_far ++ item b ∷ [])
    goes_further item rest b then came h e p comes after r =
        comes_as whole before after (prefixed so_far (prefixed (item b ∷ []) comes)) (prefixed (so_far ++ item b ∷ []) comes) (one_before so_far (item b) comes)
        (h (prefixed (item b ∷ []) comes) after
        (found_first i (λ x. and_then (rest x) (λ more. Found (item x ∷ more))) now then after b (prefixed (item b ∷ []) comes) (subst (λ x. Plays i now x then) e p) (more_behind (rest b) (item b) then after comes r)))
