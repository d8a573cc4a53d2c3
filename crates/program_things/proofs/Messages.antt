-- An instance that is put in the place of the one with another message.
use Rattle.std.proofs.Common.{◌≡◌, ℕ, zero, suc, List, [], ◌∷◌, Option, Some, None, refl, ap, ◌∙◌}
use Rattle.std.specs.Prelude.{slice_get, slice_set}
use Rattle.apex_num.specs.declared.cell.Cell.{Cell}
use Rattle.apex_meaning.specs.Preparing.{with_message}
use Rattle.txn_heap.specs.Changes.{changed}
use Rattle.txn_heap.specs.declared.thing.Thing.{Thing}
use Rattle.txn_heap.specs.declared.thing.Thing.TheVariants as T
use Rattle.program_things.specs.Kinds.{told_as}

replaced : (place : ℕ) (t : Thing) (heap : List Thing) → changed place (λ _. t) heap ≡ slice_set heap place t
replaced place t [] = refl
replaced zero t (x ∷ xs) = refl
replaced (suc n) t (x ∷ xs) = ap (λ ys. x ∷ ys) (replaced n t xs)

pub put_there : (m : Cell) (place : ℕ) (heap : List Thing) (t : Thing) → told_as m (slice_get heap place) ≡ Some t → changed place (λ _. t) heap ≡ with_message m (slice_get heap place) place heap
put_there m place heap t e = replaced place t heap ∙ by (slice_get heap place) e where
  same : (x : Thing) → Some x ≡ Some t → t ≡ x
  same x e = cc

  by : (o : Option Thing) → told_as m o ≡ Some t → slice_set heap place t ≡ with_message m o place heap
  by (Some (T.Instance i)) e = ap (λ x. slice_set heap place x) (same (T.Instance (record i { message = m })) e)
  by (Some (T.Record i)) e = cc
  by (Some (T.List i)) e = cc
  by (Some (T.Set i)) e = cc
  by (Some (T.Map i)) e = cc
  by (Some (T.Exception i)) e = cc
  by (Some (T.Guard i)) e = cc
  by None e = cc
