-- A tree may lead back to itself through `Items`: its shape is the list, and its children are the elements.
use Rattle.std.specs.formers.vec.Vec as vec
use Rattle.std.specs.declared.alloc.Global.{Global}
use Rattle.std.specs.contracts.alloc.Global as heap
use Rattle.std.specs.contracts.impls.GlobalAllocator.TheImpl.{ghosts}
use Rattle.apex_list.specs.contracts.items.Items as whole
use Rattle.apex_list.specs.contracts.items.Items.TheInside as fields
use Rattle.apex_list.specs.declared.items.Items.TheInside.{Inside}
use Rattle.apex_list.specs.declared.items.Items.TheView.{view, invariant}
use mathlib.Core.Path.{◌≡◌, refl, sym}
use mathlib.Core.List.{List, []}
use mathlib.Core.Former.{Former, this, list, via, children}
use base.Stored.{code_map}
use denote.RattleType.{RattleType}
use denote.HoleLaws.{Alike}
use denote.HolePlaces.{Recodes, struct_places, laid}
use denote.Hole.Carrier.{listed, list-listed}
use denote.Hole.Fix.{over}
use denote.Param.Weighed.{Weighed, w_list}
use denote.Model.Placed.{view_places}

abbrev pub the_former : Former {0} → Former {0}
the_former element = list element

abbrev pub the_weighed : {element : Former {0}} → Weighed element → Weighed (the_former element)
the_weighed weighed = w_list weighed

pub the_empty : List ⊥
the_empty = []

abbrev pub the_items : (A : Type 0) → List A → List A
the_items A elements = elements

pub the_items_listed : (A : Type 0) (elements : List A) → listed _ (children (the_former this) A elements) ≡ the_items A elements
the_items_listed A elements = list-listed A elements

-- the one field: a `Vec`
abbrev inside : Former {0}
inside = via (vec.the_former this Global) Inside (λ A it. it.inner) (λ A it. record { inner = it }) (λ A it. refl) (λ A it. refl)

module _ (R S : RattleType) (along : R.Denot → S.Denot) where
  pub the_places : Alike R S along → Alike (whole.the_row R) (whole.the_row S) ((the_former this).map R.Denot S.Denot along)
  the_places alike = view_places inside (list this) view (λ A B f it. refl) (λ A it. refl) R.Denot S.Denot along (whole.the_row R).coded (whole.the_row S).coded
      (invariant R.Denot) (invariant S.Denot) (λ it p q. refl) (λ it p q. refl) (λ it e. tt) (λ it e. tt)
      (over (fields.the_row R)) (over (fields.the_row S))
      (struct_places (fields.the_type R) (fields.the_type S) (vec.mapped along, tt) _ (λ d. refl) refl (laid _ _ _ (vec.the_places heap.the_row ghosts R S along alike), tt))

  pub the_codes_placed : Recodes R S along → Recodes (whole.the_row R) (whole.the_row S) ((the_former this).map R.Denot S.Denot along)
  the_codes_placed recodes elements = sym (code_map R.coded.code S.coded.code along (λ a. sym (recodes a)) elements)
