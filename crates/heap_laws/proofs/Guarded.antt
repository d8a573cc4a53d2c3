-- What may not be changed stays.
use Rattle.std.proofs.Common.{◌≡◌, ℕ, ◌<◌, Bool, true, false, not, ◌&&◌, List, [], ◌∷◌, ◌++◌, length, Option, None, Some, slice_get, refl, sym, ap, subst}
use Rattle.apex_num.specs.declared.cell.Cell.{Cell}
use Rattle.apex_num.specs.declared.cell.Cell.TheVariants as C
use Rattle.builtin_table.specs.declared.exception.ExceptionClass.TheVariants as Class
use Rattle.builtin_table.specs.declared.method.Builtin.{Builtin}
use Rattle.builtin_table.specs.declared.method.Builtin.TheVariants as B
use Rattle.builtin_table.specs.declared.method.ListMethod.{ListMethod}
use Rattle.builtin_table.specs.declared.method.ListMethod.TheVariants as L
use Rattle.builtin_table.specs.declared.method.MapMethod.{MapMethod}
use Rattle.builtin_table.specs.declared.method.MapMethod.TheVariants as M
use Rattle.txn_heap.specs.Changes.{changed}
use Rattle.txn_heap.specs.Guards.{guard_of, takes_change}
use Rattle.txn_heap.specs.declared.thing.Thing.{Thing}
use Rattle.txn_heap.specs.declared.thing.Thing.TheVariants as T
use Rattle.txn_heap.specs.declared.thing.Value.{Value}
use Rattle.txn_heap.specs.declared.thing.Value.TheVariants.{Plain, Object}
use Rattle.heap_methods.specs.declared.operands.Place.{Place}
use Rattle.heap_methods.specs.declared.operands.Place.TheVariants.{Within, Outside, Missing}
use Rattle.heap_methods.specs.Lists.{at_place, list_method, join}
use Rattle.heap_methods.specs.Maps.{map_method}
use Rattle.heap_methods.specs.Methods.{on_thing, list_changes, map_changes, changes, unchanging, if_stays, stays, outcome}
use Rattle.heap_methods.specs.Operands.{as_set, place_in, or_null}
use Rattle.heap_methods.specs.Outcomes.{Outcome, done, Tells, Spells, Becomes, Makes, Fails, Answers}
use Rattle.heap_laws.specs.Laws as laws
use Rattle.heap_laws.proofs.Steps.{still_there}

-- the thing that the method is called on is as before
abbrev Quiet : Outcome → Type 0
Quiet (Becomes thing v) = ⊥
Quiet _ = Unit {0}

still : (o : Outcome) (p : ℕ) (heap after : List Thing) (v : Value) → Quiet o → p < length heap → done p heap o ≡ Answers v after → slice_get after p ≡ slice_get heap p
still (Tells w) p heap after v q l e = let is : heap ≡ after = cc in ap (λ x. slice_get x p) (sym is)
still (Spells t) p heap after v q l e = let is : heap ≡ after = cc in ap (λ x. slice_get x p) (sym is)
still (Becomes t w) p heap after v q l e = absurd q
still (Makes t) p heap after v q l e = let is : heap ++ t ∷ [] ≡ after = cc in subst (λ x. slice_get x p ≡ slice_get heap p) is (still_there heap (t ∷ []) p l)
still (Fails class message) p heap after v q l e = cc

unchanging_quiet : (o : Outcome) → Quiet (unchanging o)
unchanging_quiet (Fails Class.NullPointer message) = tt
unchanging_quiet (Fails _ message) = tt
unchanging_quiet _ = tt

-- ---- the methods that change nothing

place_quiet : (place : Place) (xs : List Value) → Quiet (at_place place (λ n. Tells (or_null (slice_get xs n))))
place_quiet (Within n) xs = tt
place_quiet (Outside n) xs = tt
place_quiet Missing xs = tt

list_quiet : (m : ListMethod) (heap : List Thing) (xs args : List Value) → list_changes m ≡ false → Quiet (list_method m heap xs args)
list_quiet L.Add heap xs args h = cc
list_quiet L.Insert heap xs args h = cc
list_quiet L.AddAll heap xs args h = cc
list_quiet L.Set heap xs args h = cc
list_quiet L.Remove heap xs args h = cc
list_quiet L.Clear heap xs args h = cc
list_quiet L.Sort heap xs args h = cc
list_quiet L.Get heap xs (x ∷ []) h = place_quiet (place_in (length xs) x) xs
list_quiet _ heap xs [] h = tt
list_quiet _ heap xs (x ∷ []) h = tt
list_quiet _ heap xs (x ∷ (y ∷ [])) h = tt
list_quiet _ heap xs (x ∷ (y ∷ (z ∷ zs))) h = tt

map_quiet : (m : MapMethod) (heap : List Thing) (es : List (Cell × Value)) (args : List Value) → map_changes m ≡ false → Quiet (map_method m heap es args)
map_quiet M.Put heap es args h = cc
map_quiet M.PutAll heap es args h = cc
map_quiet M.Remove heap es args h = cc
map_quiet M.Clear heap es args h = cc
map_quiet _ heap es [] h = tt
map_quiet _ heap es (x ∷ []) h = tt
map_quiet _ heap es (x ∷ (y ∷ [])) h = tt
map_quiet _ heap es (x ∷ (y ∷ (z ∷ zs))) h = tt

join_quiet : (xs args : List Value) → Quiet (join xs args)
join_quiet xs (Plain (C.Text between) ∷ []) = tt
join_quiet xs _ = tt

-- a set is never guarded
thing_quiet : (which : Builtin) (heap : List Thing) (o : Option Thing) (args : List Value) → changes which ≡ false → as_set o ≡ None → Quiet (on_thing which heap o args)
thing_quiet (B.List m) heap (Some (T.List xs)) args h n = list_quiet m heap xs args h
thing_quiet (B.List m) heap _ args h n = tt
thing_quiet (B.Set m) heap (Some (T.Set ks)) args h n = cc
thing_quiet (B.Set m) heap _ args h n = tt
thing_quiet (B.Map m) heap (Some (T.Map es)) args h n = map_quiet m heap es args h
thing_quiet (B.Map m) heap _ args h n = tt
thing_quiet B.Join heap (Some (T.List xs)) args h n = join_quiet xs args
thing_quiet B.Join heap _ args h n = tt
thing_quiet _ heap _ args h n = tt

-- ---- the laws

outcome_quiet : (which : Builtin) (place : ℕ) (args : List Value) (heap : List Thing) → takes_change (guard_of heap place) ≡ false → as_set (slice_get heap place) ≡ None → Quiet (outcome which place args heap)
outcome_quiet which place args heap g n = go (changes which) refl
  where
    go : (b : Bool) → changes which ≡ b → Quiet (if_stays (stays which (guard_of heap place)) (on_thing which heap (slice_get heap place) args))
    go true is =
        let so : stays which (guard_of heap place) ≡ true = (λ i. is i && not (g i)) in
        subst (λ b. Quiet (if_stays b (on_thing which heap (slice_get heap place) args))) (sym so) (unchanging_quiet (on_thing which heap (slice_get heap place) args))
    go false is =
        let so : stays which (guard_of heap place) ≡ false = ap (λ b. b && not (takes_change (guard_of heap place))) is in
        subst (λ b. Quiet (if_stays b (on_thing which heap (slice_get heap place) args))) (sym so) (thing_quiet which heap (slice_get heap place) args is n)

pub guarded_stays : laws.GuardedStays
guarded_stays which place args heap after v g n l e = still (outcome which place args heap) place heap after v (outcome_quiet which place args heap g n) l e

pub unguarded_done : laws.UnguardedIsDone
unguarded_done which place args heap free = go (changes which) refl
  where
    go : (b : Bool) → changes which ≡ b → if_stays (stays which (guard_of heap place)) (on_thing which heap (slice_get heap place) args) ≡ on_thing which heap (slice_get heap place) args
    go true is = ap (λ b. if_stays b (on_thing which heap (slice_get heap place) args)) (λ i. is i && not (takes_change (free i)))
    go false is = ap (λ b. if_stays (b && not (takes_change (guard_of heap place))) (on_thing which heap (slice_get heap place) args)) is
