-- A tree may lead back to itself through `Boxed`: the value is the one child.
use Rattle.std.specs.declared.boxed.Box.{Box}
use Rattle.std.specs.contracts.boxed.Box as box
use Rattle.std.specs.declared.alloc.Global.{Global}
use Rattle.std.specs.contracts.alloc.Global as heap
use Rattle.std.specs.contracts.impls.GlobalAllocator.TheImpl.{ghosts}
use Rattle.apex_list.specs.contracts.boxed.Boxed as whole
use Rattle.apex_list.specs.contracts.boxed.Boxed.TheInside as fields
use Rattle.apex_list.specs.declared.boxed.Boxed.TheInside.{Inside}
use Rattle.apex_list.specs.declared.boxed.Boxed.TheView.{view, invariant}
use mathlib.Core.Path.{refl}
use mathlib.Core.Former.{Former, this, const, pair, via}
use base.Stored.{gnil}
use base.Fml.{ftrue}
use denote.RattleType.{RattleType}
use denote.RawPtr.{Ptr}
use denote.Memory.{part_of}
use denote.Sharing.{nothing}
use denote.HoleLaws.{Alike}
use denote.HolePlaces.{Recodes, struct_places, laid, one_value}
use denote.Hole.Fix.{over}
use denote.Param.Weighed.{Weighed}
use denote.Model.Placed.{view_places}

abbrev pub the_former : Former {0} → Former {0}
the_former child = child

abbrev pub the_weighed : {child : Former {0}} → Weighed child → Weighed (the_former child)
the_weighed weighed = weighed

-- the one field: a `Box`, which is where it points, its allocator and the value
abbrev inside : Former {0}
inside = via (pair (const (Ptr × Global)) this) Inside (λ A b. ((b.held.ptr, b.held.alloc), b.held.value))
    (λ A d. record { held = record { ptr = d.0.0; alloc = d.0.1; value = d.1 } }) (λ A b. refl) (λ A d. refl)

abbrev replaced : {A B : Type 0} → Box A Global → B → Box B Global
replaced b value = record { ptr = b.ptr; alloc = b.alloc; value = value }

abbrev box_of : RattleType → RattleType
box_of R = box.the_row R heap.the_row ghosts

module _ (R S : RattleType) (along : R.Denot → S.Denot) where
  held_places : Alike R S along → Alike (box_of R) (box_of S) (λ b. replaced b (along b.value))
  unfolding part_of
  held_places alike = record {
    mir_same = λ i. (box_of (one_value R (alike.mir_same i) (λ _. ftrue) (λ _ _. nothing) gnil)).mir;
    own_same = λ b i. (box_of (one_value R (alike.mir_same i) (alike.own_same b.value i) (alike.shr_same b.value i) gnil)).own_val (replaced b tt);
    shr_same = λ b i. (box_of (one_value R (alike.mir_same i) (alike.own_same b.value i) (alike.shr_same b.value i) gnil)).shr_at (replaced b tt);
  }

  pub the_places : Alike R S along → Alike (whole.the_row R) (whole.the_row S) ((the_former this).map R.Denot S.Denot along)
  the_places alike = view_places inside this view (λ A B f b. refl) (λ A b. refl) R.Denot S.Denot along (whole.the_row R).coded (whole.the_row S).coded
      (invariant R.Denot) (invariant S.Denot) (λ b p q. refl) (λ b p q. refl) (λ b e. tt) (λ b e. tt)
      (over (fields.the_row R)) (over (fields.the_row S))
      (struct_places (fields.the_type R) (fields.the_type S) ((λ b. replaced b (along b.value)), tt) _ (λ d. refl) refl (laid _ _ _ (held_places alike), tt))

  pub the_codes_placed : Recodes R S along → Recodes (whole.the_row R) (whole.the_row S) ((the_former this).map R.Denot S.Denot along)
  the_codes_placed recodes child = recodes child
