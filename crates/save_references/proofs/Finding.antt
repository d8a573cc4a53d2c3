-- What references name is found out for one after the other.
use Rattle.std.proofs.Common.{◌≡◌, refl, sym, ap, subst, ◌∙◌, List, [], ◌∷◌, ◌++◌, append_assoc}
use Rattle.apex_rows.specs.declared.query.Question.{Question}
use Rattle.apex_rows.specs.declared.query.Answer.{Answer}
use Rattle.apex_rows.specs.declared.row.Row.{Row}
use Rattle.row_meaning.specs.Overlays.{Overlay}
use Rattle.save_meaning.specs.declared.draft.Reference.{Reference}
use Rattle.save_meaning.specs.Drafts.{untouched, with_ids}
use Rattle.save_statements.specs.declared.pending.Pending.{Pending}
use Rattle.save_statements.specs.Checks.{named_in, find_all}
use Rattle.store_inquiries.specs.Inquiries.{Inquiry, Found, Asked, and_then, replayed}
use Rattle.store_inquiries.specs.Questions.{rows_by}
use Rattle.answer_replay.specs.declared.answers.Comes.{Comes}
use Rattle.answer_replay.specs.declared.answers.Comes.TheVariants as C
use Rattle.answer_replay.specs.Playing.{left_by, Plays}
use Rattle.answer_replay.proofs.Composing.{finds, wants_first, found_first}

-- ---- inquiries behind one another

module _ {A B D : Type 0} (f : A → Inquiry B) (k : B → Inquiry D) where
  -- of three, it is the same which two are taken together
  regroup_to : (i : Inquiry A) (answers : List Answer) →
      replayed C.Found C.Wants (and_then (and_then i f) k) answers ≡ replayed C.Found C.Wants (and_then i (λ a. and_then (f a) k)) answers
  regroup_to (Found a) answers = refl
  regroup_to (Asked q next) [] = refl
  regroup_to (Asked q next) (x ∷ answers) = regroup_to (next x) answers

  regroup_left : (i : Inquiry A) (answers : List Answer) → left_by (and_then (and_then i f) k) answers ≡ left_by (and_then i (λ a. and_then (f a) k)) answers
  regroup_left (Found a) answers = refl
  regroup_left (Asked q next) [] = refl
  regroup_left (Asked q next) (x ∷ answers) = regroup_left (next x) answers

  regrouped : (i : Inquiry A) (before after : List Answer) (comes : Comes D) → Plays (and_then i (λ a. and_then (f a) k)) before comes after → Plays (and_then (and_then i f) k) before comes after
  regrouped i before after comes p = record { comes_to = regroup_to i before ∙ p.comes_to; leaves = regroup_left i before ∙ p.leaves }

module _ {A D : Type 0} (g h : A → D) (same : (a : A) → h a ≡ g a) where
  -- what is found is the same, said in another way
  same_to : (i : Inquiry A) (answers : List Answer) → replayed C.Found C.Wants (and_then i (λ a. Found (h a))) answers ≡ replayed C.Found C.Wants (and_then i (λ a. Found (g a))) answers
  same_to (Found a) answers = ap (λ d. C.Found d) (same a)
  same_to (Asked q next) [] = refl
  same_to (Asked q next) (x ∷ answers) = same_to (next x) answers

  same_left : (i : Inquiry A) (answers : List Answer) → left_by (and_then i (λ a. Found (h a))) answers ≡ left_by (and_then i (λ a. Found (g a))) answers
  same_left (Found a) answers = refl
  same_left (Asked q next) [] = refl
  same_left (Asked q next) (x ∷ answers) = same_left (next x) answers

  same_end : (i : Inquiry A) (before after : List Answer) (comes : Comes D) → Plays (and_then i (λ a. Found (g a))) before comes after → Plays (and_then i (λ a. Found (h a))) before comes after
  same_end i before after comes p = record { comes_to = same_to i before ∙ p.comes_to; leaves = same_left i before ∙ p.leaves }

module _ {A : Type 0} where
  -- nothing comes behind it
  plain_to : (i : Inquiry A) (answers : List Answer) → replayed C.Found C.Wants i answers ≡ replayed C.Found C.Wants (and_then i (λ a. Found a)) answers
  plain_to (Found a) answers = refl
  plain_to (Asked q next) [] = refl
  plain_to (Asked q next) (x ∷ answers) = plain_to (next x) answers

  plain_left : (i : Inquiry A) (answers : List Answer) → left_by i answers ≡ left_by (and_then i (λ a. Found a)) answers
  plain_left (Found a) answers = refl
  plain_left (Asked q next) [] = refl
  plain_left (Asked q next) (x ∷ answers) = plain_left (next x) answers

  plain_end : (i : Inquiry A) (before after : List Answer) (comes : Comes A) → Plays (and_then i (λ a. Found a)) before comes after → Plays i before comes after
  plain_end i before after comes p = record { comes_to = plain_to i before ∙ p.comes_to; leaves = plain_left i before ∙ p.leaves }

append_nil : {A : Type 0} (xs : List A) → xs ++ [] ≡ xs
append_nil [] = refl
append_nil (x ∷ xs) = ap (λ ys. x ∷ ys) (append_nil xs)

-- ---- the references of records

module _ (overlay : Overlay) (ps : List Pending) where
  -- the rows that a reference may name
  abbrev pub rows_for : Reference → Inquiry (List Row)
  rows_for ref = rows_by overlay ref.to (untouched overlay (with_ids (named_in ref.field ps) []))

  -- the rest of the references, behind those of which the rows are known
  abbrev pub the_rest : List (Reference × List Row) → List Reference → Inquiry (List (Reference × List Row))
  the_rest all refs = and_then (find_all overlay refs ps) (λ more. Found (all ++ more))

  -- whatever the rest comes to, the whole comes to
  abbrev pub GoesOn : List Reference → List Answer → List (Reference × List Row) → List Reference → List Answer → Type 0
  GoesOn whole before all refs left =
      (comes : Comes (List (Reference × List Row))) (after : List Answer) → Plays (the_rest all refs) left comes after → Plays (find_all overlay whole ps) before comes after

  pub begins : (whole refs : List Reference) (before : List Answer) (all : List (Reference × List Row)) → refs ≡ whole → all ≡ [] → GoesOn whole before all refs before
  begins whole refs before all e none comes after p =
      plain_end (find_all overlay whole ps) before after comes
      (subst (λ rs. Plays (the_rest [] rs) before comes after) e (subst (λ xs. Plays (the_rest xs refs) before comes after) none p))

  pub one_more : (whole refs rest : List Reference) (before left between : List Answer) (all new : List (Reference × List Row)) (ref : Reference) (rows : List Row) (found : Comes (List Row)) →
      GoesOn whole before all refs left → refs ≡ ref ∷ rest → found ≡ C.Found rows → Plays (rows_for ref) left found between → new ≡ all ++ (ref, rows) ∷ [] → GoesOn whole before new rest between
  one_more whole refs rest before left between all new ref rows found goes e f p is comes after r =
      goes comes after (subst (λ rs. Plays (the_rest all rs) left comes after) (sym e)
      (regrouped (λ rows. and_then (find_all overlay rest ps) (λ more. Found ((ref, rows) ∷ more))) (λ more. Found (all ++ more)) (rows_for ref) left after comes
      (found_first (rows_for ref) (λ rows. and_then (and_then (find_all overlay rest ps) (λ more. Found ((ref, rows) ∷ more))) (λ more. Found (all ++ more))) left between after rows comes
      (subst (λ x. Plays (rows_for ref) left x between) f p)
      (regrouped (λ more. Found ((ref, rows) ∷ more)) (λ more. Found (all ++ more)) (find_all overlay rest ps) between after comes
      (same_end (λ more. (all ++ (ref, rows) ∷ []) ++ more) (λ more. all ++ (ref, rows) ∷ more) (λ more. sym (append_assoc all ((ref, rows) ∷ []) more)) (find_all overlay rest ps) between after comes
      (subst (λ xs. Plays (the_rest xs rest) between comes after) is r))))))

  pub one_wanted : (whole refs rest : List Reference) (before left after : List Answer) (all : List (Reference × List Row)) (ref : Reference) (q : Question) (found : Comes (List Row)) →
      GoesOn whole before all refs left → refs ≡ ref ∷ rest → found ≡ C.Wants q → Plays (rows_for ref) left found after → Plays (find_all overlay whole ps) before (C.Wants q) after
  one_wanted whole refs rest before left after all ref q found goes e f p =
      goes (C.Wants q) after (subst (λ rs. Plays (the_rest all rs) left (C.Wants q) after) (sym e)
      (regrouped (λ rows. and_then (find_all overlay rest ps) (λ more. Found ((ref, rows) ∷ more))) (λ more. Found (all ++ more)) (rows_for ref) left after (C.Wants q)
      (wants_first (rows_for ref) (λ rows. and_then (and_then (find_all overlay rest ps) (λ more. Found ((ref, rows) ∷ more))) (λ more. Found (all ++ more))) left after q
      (subst (λ x. Plays (rows_for ref) left x after) f p))))

  pub all_found : (whole refs : List Reference) (before left : List Answer) (all : List (Reference × List Row)) → GoesOn whole before all refs left → refs ≡ [] → Plays (find_all overlay whole ps) before (C.Found all) left
  all_found whole refs before left all goes e =
      goes (C.Found all) left (subst (λ rs. Plays (the_rest all rs) left (C.Found all) left) (sym e)
      (subst (λ xs. Plays (Found xs) left (C.Found all) left) (sym (append_nil all)) (finds all left)))
