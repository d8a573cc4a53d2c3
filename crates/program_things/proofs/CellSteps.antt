-- Cells of records in instructions.
use Rattle.std.proofs.Common.{◌≡◌, ℕ, Bool, true, false, cond, List, [], ◌∷◌, Option, Some, None, refl, ap, ◌∙◌}
use Rattle.std.specs.Prelude.{slice_get, slice_index_or}
use Rattle.apex_num.specs.declared.kind.LimitKind.TheVariants.{Alloc}
use Rattle.apex_meaning.specs.Places.{setting_units, with_cell}
use Rattle.apex_meaning.specs.Records.{cell_in}
use Rattle.apex_schema.specs.declared.schema.Schema.{Schema}
use Rattle.platform_errors.specs.declared.thrown.Thrown.TheVariants.{NullObject}
use Rattle.txn_heap.specs.Guards.{guard_of, takes_cell}
use Rattle.txn_heap.specs.declared.thing.Ref.{Ref}
use Rattle.txn_heap.specs.declared.thing.Thing.{Thing}
use Rattle.txn_heap.specs.declared.thing.Thing.TheVariants as T
use Rattle.txn_heap.specs.declared.thing.Value.{Value}
use Rattle.txn_heap.specs.declared.thing.Value.TheVariants.{Plain, Object}
use Rattle.typed_program.specs.declared.expr.Number.{Number}
use Rattle.typed_program.specs.declared.expr.StepKind.{StepKind}
use Rattle.value_operators.specs.Operators.{stepped}
use Rattle.stack_code.specs.declared.code.Slot.TheVariants as S
use Rattle.stack_code.specs.declared.state.Config.{Config}
use Rattle.stack_code.specs.declared.state.World.{World}
use Rattle.stack_code.specs.Machine.{Next, charged, next, on_calc, on_taken, raise, taken, with_heap}
use Rattle.stack_code.specs.Things.{cell_stored, change_next, fetch_next, get_next, if_takes_cell, loaded, set_cell_in_thing, set_next, stored}
use Rattle.program_things.specs.Cells.{setting_at, setting_of}
use Rattle.program_things.specs.Steps.{Takes}
use Rattle.program_things.proofs.Lists.{taken_one}
use Rattle.program_things.proofs.Same.{with_stack, in_world, calc_alike, charged_alike, taken_is, top_is}

-- ---- what is there

some_is : {A : Type 0} (x y : A) → Some x ≡ Some y → x ≡ y
some_is x y e = cc

-- a store in a record that may take the cell, at these units
abbrev pub stored_in : ℕ → Value → Ref × ℕ → Config → (Config → Next) → Next
stored_in field v s c go =
    if_takes_cell (takes_cell (guard_of c.world.heap s.0.place) field) c (charged Alloc s.1 c (λ d. go (with_heap d (with_cell field v s.0.place d.world.heap))))

-- a record and its units, where they are these
setting_is : (field : ℕ) (v : Value) (x y : Ref × ℕ) (c : Config) (go : Config → Next) → Some x ≡ Some y → stored_in field v x c go ≡ stored_in field v y c go
setting_is field v x y c go e = ap (λ (z : Ref × ℕ). stored_in field v z c go) (some_is x y e)

pub stored_some : (field : ℕ) (on v : Value) (s : Ref × ℕ) (c : Config) (go : Config → Next) → setting_at field on c.world.heap ≡ Some s →
    cell_stored field on v c go ≡ stored_in field v s c go
stored_some field (Plain k) v s c go e = cc
stored_some field (Object q) v s c go e = by (slice_get c.world.heap q.place) e where
  by : (t : Option Thing) → setting_of field q t ≡ Some s → set_cell_in_thing field v q.place t c go ≡ stored_in field v s c go
  by (Some (T.Record i)) e = setting_is field v (q, setting_units (slice_index_or i.cells field None)) s c go e
  by (Some (T.Instance i)) e = cc
  by (Some (T.List i)) e = cc
  by (Some (T.Set i)) e = cc
  by (Some (T.Map i)) e = cc
  by (Some (T.Exception i)) e = cc
  by (Some (T.Guard i)) e = cc
  by None e = cc

pub stored_none : (field : ℕ) (on v : Value) (c : Config) (go : Config → Next) → setting_at field on c.world.heap ≡ None → cell_stored field on v c go ≡ raise NullObject c
stored_none field (Plain k) v c go e = refl
stored_none field (Object q) v c go e = by (slice_get c.world.heap q.place) e where
  by : (t : Option Thing) → setting_of field q t ≡ None → set_cell_in_thing field v q.place t c go ≡ raise NullObject c
  by (Some (T.Record i)) e = cc
  by (Some (T.Instance i)) e = refl
  by (Some (T.List i)) e = refl
  by (Some (T.Set i)) e = refl
  by (Some (T.Map i)) e = refl
  by (Some (T.Exception i)) e = refl
  by (Some (T.Guard i)) e = refl
  by None e = refl

guarded_alike : (b : Bool) (c : Config) (s : List Value) (x y : Next) → x ≡ y → if_takes_cell b c x ≡ if_takes_cell b (with_stack c s) y
guarded_alike true c s x y e = e
guarded_alike false c s x y e = refl

-- other operands make no difference
pub stored_alike : (field : ℕ) (on v : Value) (c : Config) (s : List Value) (go to : Config → Next) →
    ((w : World) → go (in_world c w) ≡ to (in_world (with_stack c s) w)) → cell_stored field on v c go ≡ cell_stored field on v (with_stack c s) to
stored_alike field (Plain k) v c s go to h = refl
stored_alike field (Object q) v c s go to h = by (slice_get c.world.heap q.place) where
  by : (t : Option Thing) → set_cell_in_thing field v q.place t c go ≡ set_cell_in_thing field v q.place t (with_stack c s) to
  by (Some (T.Record i)) = guarded_alike (takes_cell (guard_of c.world.heap q.place) field) c s _ _ (charged_alike Alloc (setting_units (slice_index_or i.cells field None)) c s _ _ (λ w. h _))
  by (Some (T.Instance i)) = refl
  by (Some (T.List i)) = refl
  by (Some (T.Set i)) = refl
  by (Some (T.Map i)) = refl
  by (Some (T.Exception i)) = refl
  by (Some (T.Guard i)) = refl
  by None = refl

-- ---- instructions

module _ (field : ℕ) (goes_on : Bool) (c : Config) (on : Value) where
  pub get_is : (schema : Schema) (rest : List Value) → Takes c.top.stack on rest →
      get_next schema (S.Cell field goes_on) c ≡ on_calc (cell_in schema field goes_on on c.world.heap) (with_stack c rest) (λ v. next (with_stack c rest) (v ∷ rest))
  get_is schema rest t =
      taken_is 1 c.top.stack rest (on ∷ []) (λ ps stack. loaded schema (S.Cell field goes_on) ps c (λ w d. next d (w ∷ stack))) (taken_one 0 c.top.stack rest [] on t)
      ∙ calc_alike (cell_in schema field goes_on on c.world.heap) c rest _ _ (λ v. refl)

  pub fetch_is : (schema : Schema) (rest : List Value) → c.top.stack ≡ on ∷ rest →
      fetch_next schema (S.Cell field goes_on) c ≡ on_calc (cell_in schema field goes_on on c.world.heap) (with_stack c rest) (λ v. next (with_stack c rest) (v ∷ on ∷ rest))
  fetch_is schema rest s =
      taken_is 1 c.top.stack rest (on ∷ []) (λ ps stack. loaded schema (S.Cell field goes_on) ps c (λ w d. next d (w ∷ d.top.stack))) (ap (λ xs. taken 1 xs []) s)
      ∙ calc_alike (cell_in schema field goes_on on c.world.heap) c rest _ _ (λ v. ap (λ xs. next c (v ∷ xs)) s)

  pub set_is : (value : Value) (under rest : List Value) → Takes c.top.stack value under → Takes under on rest → set_next (S.Cell field goes_on) c ≡ cell_stored field on value (with_stack c rest) (λ d. next d (value ∷ rest))
  set_is value under rest t u =
      top_is c.top.stack under value (λ v below. on_taken 1 below (λ ps stack. stored (S.Cell field goes_on) ps v c (λ d. next d (v ∷ stack)))) t
      ∙ taken_is 1 under rest (on ∷ []) (λ ps stack. stored (S.Cell field goes_on) ps value c (λ d. next d (value ∷ stack))) (taken_one 0 under rest [] on u)
      ∙ stored_alike field on value c rest _ _ (λ w. refl)

  module _ (kind : StepKind) (n : Number) (rest : List Value) (t : Takes c.top.stack on rest) where
    pub change_is : (schema : Schema) →
        change_next schema kind n (S.Cell field goes_on) c
        ≡ on_calc (cell_in schema field goes_on on c.world.heap) (with_stack c rest) (λ old. on_calc (stepped kind.up n old) (with_stack c rest) (λ new. cell_stored field on new (with_stack c rest) (λ e. next e (cond kind.before new old ∷ rest))))
    change_is schema =
        taken_is 1 c.top.stack rest (on ∷ []) (λ ps stack. loaded schema (S.Cell field goes_on) ps c (λ v d. on_calc (stepped kind.up n v) d (λ new. stored (S.Cell field goes_on) ps new d (λ x. next x (cond kind.before new v ∷ stack))))) (taken_one 0 c.top.stack rest [] on t)
        ∙ calc_alike (cell_in schema field goes_on on c.world.heap) c rest _ _ (λ old. calc_alike (stepped kind.up n old) c rest _ _ (λ new. stored_alike field on new c rest _ _ (λ w. refl)))
