-- What is made of the tenants that a shard left, one behind the other.
use Rattle.std.proofs.Common.{arith, ◌≡◌, refl, sym, ap, ◌∙◌, ℕ, zero, suc, ◌≤◌, List, [], ◌∷◌, ◌++◌, append_assoc, length}
use Rattle.std.specs.Prelude.{slice_set}
use Rattle.apex_requests.specs.declared.reply.Event.{Event}
use Rattle.tenant_shards.specs.declared.finish.Finished.{Finished}
use Rattle.tenant_runs.specs.Steps.{dealt}

pub dealt_more : (trails : List (List Event)) (front : List Finished) (f : Finished) → dealt trails (front ++ f ∷ []) ≡ slice_set (dealt trails front) f.tenant f.trail
dealt_more trails [] f = refl
dealt_more trails (g ∷ front) f = dealt_more (slice_set trails g.tenant g.trail) front f

set_beyond : (xs : List (List Event)) (t : ℕ) (x : List Event) → length xs ≤ t → slice_set xs t x ≡ xs
set_beyond [] t x le = refl
set_beyond (y ∷ xs) zero x le = absurd (omega (arith, le))
set_beyond (y ∷ xs) (suc t) x le = ap (λ ys. y ∷ ys) (set_beyond xs t x (omega (arith, le)))

pub dealt_beyond : (first trails : List (List Event)) (front : List Finished) (f : Finished) → trails ≡ dealt first front → length trails ≤ f.tenant → trails ≡ dealt first (front ++ f ∷ [])
dealt_beyond first trails front f e le = sym (dealt_more first front f ∙ ap (λ ts. slice_set ts f.tenant f.trail) (sym e) ∙ set_beyond trails f.tenant f.trail le)

pub dealt_there : (first trails later : List (List Event)) (front : List Finished) (f : Finished) → trails ≡ dealt first front → later ≡ slice_set trails f.tenant f.trail → later ≡ dealt first (front ++ f ∷ [])
dealt_there first trails later front f e is = is ∙ ap (λ ts. slice_set ts f.tenant f.trail) e ∙ sym (dealt_more first front f)

-- one more of a list that is walked
pub front_more : {A : Type 0} (whole front rest more : List A) (x : A) → whole ≡ front ++ rest → rest ≡ x ∷ more → whole ≡ (front ++ x ∷ []) ++ more
front_more whole front rest more x e f = e ∙ ap (λ r. front ++ r) f ∙ sym (append_assoc front (x ∷ []) more)
