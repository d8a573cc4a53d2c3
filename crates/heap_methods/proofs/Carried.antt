-- Steps of what is carried out.
use Rattle.std.proofs.Common.{◌≡◌, ℕ, zero, suc, List, [], ◌∷◌, Option, None, Some, slice_get, refl, sym, ap, ◌∙◌}
use Rattle.txn_heap.specs.Changes.{changed, thing_after}
use Rattle.txn_heap.specs.declared.change.Change.{Change}
use Rattle.txn_heap.specs.declared.thing.Thing.{Thing}
use Rattle.txn_heap.specs.declared.thing.Value.{Value}
use Rattle.heap_methods.specs.declared.plan.Plan.TheVariants as P
use Rattle.heap_methods.specs.Outcomes.{done, Answers}
use Rattle.heap_methods.specs.Plans.{planned}

changed_none : (heap : List Thing) (n : ℕ) (f : Thing → Thing) → slice_get heap n ≡ None → changed n f heap ≡ heap
changed_none [] n f e = refl
changed_none (t ∷ ts) zero f e = cc
changed_none (t ∷ ts) (suc n) f e = ap (λ l. t ∷ l) (changed_none ts n f e)

changed_some : (heap : List Thing) (n : ℕ) (f : Thing → Thing) (there : Thing) → slice_get heap n ≡ Some there → changed n f heap ≡ changed n (λ _. f there) heap
changed_some [] n f there e = refl
changed_some (t ∷ ts) zero f there e = let is : t ≡ there = cc in ap (λ z. f z ∷ ts) is
changed_some (t ∷ ts) (suc n) f there e = ap (λ l. t ∷ l) (changed_some ts n f there e)

pub changes_done : (place : ℕ) (heap after : List Thing) (c : Change) (v : Value) → after ≡ changed place (thing_after c) heap
    → done place heap (planned (P.Changes c v) (slice_get heap place)) ≡ Answers v after
changes_done place heap after c v is = go (slice_get heap place) refl ∙ ap (Answers v) (sym is)
  where
    go : (o : Option Thing) → slice_get heap place ≡ o → done place heap (planned (P.Changes c v) o) ≡ Answers v (changed place (thing_after c) heap)
    go None e = ap (Answers v) (sym (changed_none heap place (thing_after c) e))
    go (Some t) e = ap (Answers v) (sym (changed_some heap place (thing_after c) t e))
