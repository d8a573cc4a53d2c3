-- Fields of instances in instructions.
use Rattle.std.proofs.Common.{◌≡◌, ℕ, cond, List, [], ◌∷◌, Option, Some, None, refl, ap, ◌∙◌}
use Rattle.std.specs.Prelude.{slice_get, slice_index_or}
use Rattle.apex_meaning.specs.Builtins.{first_of}
use Rattle.request_states.specs.Values.{null}
use Rattle.platform_errors.specs.declared.thrown.Thrown.TheVariants.{NullObject}
use Rattle.txn_heap.specs.Changes.{changed as things_changed, thing_after}
use Rattle.txn_heap.specs.declared.change.Change.TheVariants as Now
use Rattle.txn_heap.specs.declared.thing.Ref.{Ref}
use Rattle.txn_heap.specs.declared.thing.Thing.{Thing}
use Rattle.txn_heap.specs.declared.thing.Thing.TheVariants as T
use Rattle.txn_heap.specs.declared.thing.Value.{Value}
use Rattle.txn_heap.specs.declared.thing.Value.TheVariants.{Plain, Object}
use Rattle.typed_program.specs.declared.expr.Number.{Number}
use Rattle.typed_program.specs.declared.expr.StepKind.{StepKind}
use Rattle.value_operators.specs.Operators.{stepped}
use Rattle.stack_code.specs.declared.code.Slot.TheVariants as S
use Rattle.stack_code.specs.declared.state.Config.{Config}
use Rattle.stack_code.specs.Machine.{Next, next, on_calc, on_taken, raise, taken, with_heap}
use Rattle.stack_code.specs.Things.{field_loaded, field_of_thing, field_stored, set_in_thing, set_next, stored}
use Rattle.program_things.specs.Steps.{Takes}
use Rattle.program_things.specs.Variables.{field_at, field_fetched, field_got, field_of, field_stepped, instance_at, is_instance}
use Rattle.program_things.proofs.Lists.{taken_one}
use Rattle.program_things.proofs.Same.{with_stack, calc_alike, taken_is, top_is}

-- ---- what is there

some_is : {A : Type 0} (x y : A) → Some x ≡ Some y → x ≡ y
some_is x y e = cc

pub loaded_some : (place : ℕ) (on v : Value) (c : Config) (go : Value → Config → Next) → field_at place on c.world.heap ≡ Some v → field_loaded place on c go ≡ go v c
loaded_some place (Plain k) v c go e = cc
loaded_some place (Object r) v c go e = by (slice_get c.world.heap r.place) e where
  by : (t : Option Thing) → field_of place t ≡ Some v → field_of_thing place t c go ≡ go v c
  by (Some (T.Instance i)) e = ap (λ x. go x c) (some_is (slice_index_or i.fields place null) v e)
  by (Some (T.Record i)) e = cc
  by (Some (T.List i)) e = cc
  by (Some (T.Set i)) e = cc
  by (Some (T.Map i)) e = cc
  by (Some (T.Exception i)) e = cc
  by (Some (T.Guard i)) e = cc
  by None e = cc

pub loaded_none : (place : ℕ) (on : Value) (c : Config) (go : Value → Config → Next) → field_at place on c.world.heap ≡ None → field_loaded place on c go ≡ raise NullObject c
loaded_none place (Plain k) c go e = refl
loaded_none place (Object r) c go e = by (slice_get c.world.heap r.place) e where
  by : (t : Option Thing) → field_of place t ≡ None → field_of_thing place t c go ≡ raise NullObject c
  by (Some (T.Instance i)) e = cc
  by (Some (T.Record i)) e = refl
  by (Some (T.List i)) e = refl
  by (Some (T.Set i)) e = refl
  by (Some (T.Map i)) e = refl
  by (Some (T.Exception i)) e = refl
  by (Some (T.Guard i)) e = refl
  by None e = refl

pub stored_some : (place : ℕ) (on v : Value) (r : Ref) (c : Config) (go : Config → Next) → instance_at on c.world.heap ≡ Some r → field_stored place on v c go ≡ go (with_heap c (things_changed r.place (thing_after (Now.Set place v)) c.world.heap))
stored_some place (Plain k) v r c go e = cc
stored_some place (Object q) v r c go e = by (slice_get c.world.heap q.place) e where
  by : (t : Option Thing) → cond (is_instance t) (Some q) None ≡ Some r → set_in_thing place v q.place t c go ≡ go (with_heap c (things_changed r.place (thing_after (Now.Set place v)) c.world.heap))
  by (Some (T.Instance i)) e = ap (λ (x : Ref). go (with_heap c (things_changed x.place (thing_after (Now.Set place v)) c.world.heap))) (some_is q r e)
  by (Some (T.Record i)) e = cc
  by (Some (T.List i)) e = cc
  by (Some (T.Set i)) e = cc
  by (Some (T.Map i)) e = cc
  by (Some (T.Exception i)) e = cc
  by (Some (T.Guard i)) e = cc
  by None e = cc

pub stored_none : (place : ℕ) (on v : Value) (c : Config) (go : Config → Next) → instance_at on c.world.heap ≡ None → field_stored place on v c go ≡ raise NullObject c
stored_none place (Plain k) v c go e = refl
stored_none place (Object q) v c go e = by (slice_get c.world.heap q.place) e where
  by : (t : Option Thing) → cond (is_instance t) (Some q) None ≡ None → set_in_thing place v q.place t c go ≡ raise NullObject c
  by (Some (T.Instance i)) e = cc
  by (Some (T.Record i)) e = refl
  by (Some (T.List i)) e = refl
  by (Some (T.Set i)) e = refl
  by (Some (T.Map i)) e = refl
  by (Some (T.Exception i)) e = refl
  by (Some (T.Guard i)) e = refl
  by None e = refl

-- other operands make no difference
pub stored_alike : (place : ℕ) (on v : Value) (c : Config) (s : List Value) (go to : Config → Next) →
    ((heap : List Thing) → go (with_heap c heap) ≡ to (with_heap (with_stack c s) heap)) → field_stored place on v c go ≡ field_stored place on v (with_stack c s) to
stored_alike place (Plain k) v c s go to h = refl
stored_alike place (Object q) v c s go to h = by (slice_get c.world.heap q.place) where
  by : (t : Option Thing) → set_in_thing place v q.place t c go ≡ set_in_thing place v q.place t (with_stack c s) to
  by (Some (T.Instance i)) = h _
  by (Some (T.Record i)) = refl
  by (Some (T.List i)) = refl
  by (Some (T.Set i)) = refl
  by (Some (T.Map i)) = refl
  by (Some (T.Exception i)) = refl
  by (Some (T.Guard i)) = refl
  by None = refl

-- ---- instructions

module _ (place : ℕ) (c : Config) (on : Value) where
  pub get_some : (rest : List Value) (v : Value) → Takes c.top.stack on rest → field_at place on c.world.heap ≡ Some v → field_got place c ≡ next (with_stack c rest) (v ∷ rest)
  get_some rest v t e =
      taken_is 1 c.top.stack rest (on ∷ []) (λ ps stack. field_loaded place (first_of ps) c (λ w d. next d (w ∷ stack))) (taken_one 0 c.top.stack rest [] on t)
      ∙ loaded_some place on v c (λ w d. next d (w ∷ rest)) e

  pub get_none : (rest : List Value) → Takes c.top.stack on rest → field_at place on c.world.heap ≡ None → field_got place c ≡ raise NullObject (with_stack c rest)
  get_none rest t e =
      taken_is 1 c.top.stack rest (on ∷ []) (λ ps stack. field_loaded place (first_of ps) c (λ w d. next d (w ∷ stack))) (taken_one 0 c.top.stack rest [] on t)
      ∙ loaded_none place on c (λ w d. next d (w ∷ rest)) e

  pub fetch_some : (rest : List Value) (v : Value) → c.top.stack ≡ on ∷ rest → field_at place on c.world.heap ≡ Some v → field_fetched place c ≡ next c (v ∷ on ∷ rest)
  fetch_some rest v s e =
      taken_is 1 c.top.stack rest (on ∷ []) (λ ps stack. field_loaded place (first_of ps) c (λ w d. next d (w ∷ d.top.stack))) (ap (λ xs. taken 1 xs []) s)
      ∙ loaded_some place on v c (λ w d. next d (w ∷ d.top.stack)) e
      ∙ ap (λ xs. next c (v ∷ xs)) s

  pub fetch_none : (rest : List Value) → c.top.stack ≡ on ∷ rest → field_at place on c.world.heap ≡ None → field_fetched place c ≡ raise NullObject (with_stack c rest)
  fetch_none rest s e =
      taken_is 1 c.top.stack rest (on ∷ []) (λ ps stack. field_loaded place (first_of ps) c (λ w d. next d (w ∷ d.top.stack))) (ap (λ xs. taken 1 xs []) s)
      ∙ loaded_none place on c (λ w d. next d (w ∷ d.top.stack)) e

  pub set_is : (value : Value) (under rest : List Value) → Takes c.top.stack value under → Takes under on rest → set_next (S.Field place) c ≡ field_stored place on value (with_stack c rest) (λ d. next d (value ∷ rest))
  set_is value under rest t u =
      top_is c.top.stack under value (λ v below. on_taken 1 below (λ ps stack. stored (S.Field place) ps v c (λ d. next d (v ∷ stack)))) t
      ∙ taken_is 1 under rest (on ∷ []) (λ ps stack. stored (S.Field place) ps value c (λ d. next d (value ∷ stack))) (taken_one 0 under rest [] on u)
      ∙ stored_alike place on value c rest _ _ (λ heap. refl)

  module _ (kind : StepKind) (n : Number) (rest : List Value) (t : Takes c.top.stack on rest) where
    pub change_some : (old : Value) → field_at place on c.world.heap ≡ Some old →
        field_stepped kind n place c ≡ on_calc (stepped kind.up n old) (with_stack c rest) (λ new. field_stored place on new (with_stack c rest) (λ e. next e (cond kind.before new old ∷ rest)))
    change_some old e =
        taken_is 1 c.top.stack rest (on ∷ []) (λ ps stack. field_loaded place (first_of ps) c (λ v d. on_calc (stepped kind.up n v) d (λ new. field_stored place (first_of ps) new d (λ x. next x (cond kind.before new v ∷ stack))))) (taken_one 0 c.top.stack rest [] on t)
        ∙ loaded_some place on old c (λ v d. on_calc (stepped kind.up n v) d (λ new. field_stored place on new d (λ x. next x (cond kind.before new v ∷ rest)))) e
        ∙ calc_alike (stepped kind.up n old) c rest _ _ (λ new. stored_alike place on new c rest _ _ (λ heap. refl))

    pub change_none : field_at place on c.world.heap ≡ None → field_stepped kind n place c ≡ raise NullObject (with_stack c rest)
    change_none e =
        taken_is 1 c.top.stack rest (on ∷ []) (λ ps stack. field_loaded place (first_of ps) c (λ v d. on_calc (stepped kind.up n v) d (λ new. field_stored place (first_of ps) new d (λ x. next x (cond kind.before new v ∷ stack))))) (taken_one 0 c.top.stack rest [] on t)
        ∙ loaded_none place on c (λ v d. on_calc (stepped kind.up n v) d (λ new. field_stored place on new d (λ x. next x (cond kind.before new v ∷ rest)))) e
