-- What expressions do (docs/language.md, "What code does").
use Rattle.std.specs.Prelude.{ℕ, Bool, true, false, cond, List, [], ◌∷◌, ◌+◌, length, map, slice_get, slice_index_or, Option, None, Some}
use Rattle.apex_num.specs.declared.cell.Cell.TheVariants as C
use Rattle.apex_num.specs.declared.kind.LimitKind.TheVariants.{Alloc}
use Rattle.builtin_table.specs.declared.exception.ExceptionClass.{ExceptionClass}
use Rattle.builtin_table.specs.declared.method.Builtin.TheVariants as B
use Rattle.builtin_table.specs.declared.method.ListMethod.TheVariants as L
use Rattle.platform_errors.specs.declared.thrown.Thrown.TheVariants.{NullObject, InvalidConversion}
use Rattle.save_meaning.specs.Results.{Gives, bind}
use Rattle.save_meaning.specs.Sites.{Site}
use Rattle.query_records.specs.Shapes.{queried}
use Rattle.query_records.specs.declared.bind.BindKind.{BindKind}
use Rattle.query_records.specs.declared.bind.BindKind.TheVariants.{One, Many}
use Rattle.request_states.specs.Expressions.{constant, make_record, all_pairs}
use Rattle.request_states.specs.Runs.{Setting, site_of}
use Rattle.request_states.specs.States.{State, Res, charge, throws, unbuilt, with_line}
use Rattle.request_states.specs.Values.{null, is_cell}
use Rattle.static_types.specs.declared.kind.Primitive.TheVariants as Primitive
use Rattle.trigger_things.specs.Things.{place_of}
use Rattle.txn_heap.specs.declared.thing.Thing.{Thing}
use Rattle.txn_heap.specs.declared.thing.Value.{Value}
use Rattle.txn_heap.specs.declared.thing.Value.TheVariants.{Plain, Object}
use Rattle.typed_program.specs.declared.expr.CollectionKind.TheVariants as Kinds
use Rattle.typed_program.specs.declared.expr.Constant.{Constant}
use Rattle.typed_program.specs.declared.expr.Conversion.TheVariants.{ToRecord}
use Rattle.typed_program.specs.declared.expr.Number.{Number}
use Rattle.typed_program.specs.declared.expr.TypedBind.{TypedBind}
use Rattle.typed_program.specs.declared.expr.TypedBind.TheOpen.{TypedBind-F, TypedExpr-F, TypedNew-F, TypedPart-F, TypedPlace-F, TypedItem-F, TypedOperand-F, TypedPair-F}
use Rattle.typed_program.specs.declared.expr.TypedBind.TheFolds.{fold-TypedExpr, fold-TypedNew, fold-TypedPart, fold-TypedPlace, fold-TypedItem, fold-TypedOperand, fold-TypedPair}
use Rattle.typed_program.specs.declared.expr.TypedExpr.{TypedExpr}
use Rattle.typed_program.specs.declared.expr.TypedItem.{TypedItem}
use Rattle.typed_program.specs.declared.expr.TypedNew.{TypedNew}
use Rattle.typed_program.specs.declared.expr.TypedOperand.{TypedOperand}
use Rattle.typed_program.specs.declared.expr.TypedPair.{TypedPair}
use Rattle.typed_program.specs.declared.expr.TypedPart.{TypedPart}
use Rattle.typed_program.specs.declared.expr.TypedPlace.{TypedPlace}
use Rattle.typed_program.specs.declared.program.Program.{Program}
use Rattle.value_operators.specs.Operators.{converted, negated, truth}
use Rattle.value_texts.specs.Texts.{text_of}
use Rattle.apex_meaning.specs.Builtins.{called_builtin}
use Rattle.apex_meaning.specs.Classes.{field_place, is_a, name_of, target}
use Rattle.apex_meaning.specs.Collections.{on_collection, make_filled, make_map, make_copy, make_exception}
use Rattle.apex_meaning.specs.Exceptions.{Kind, Declared, kind_of_thing, is_declared, is_built_in}
use Rattle.apex_meaning.specs.Meanings.{Again, Body, Method, Do, Run, Behind, all_of, calc, called, test, truth_of}
use Rattle.apex_meaning.specs.Operations.{boolean, operated, chained}
use Rattle.apex_meaning.specs.Places.{Target, LocalAt, StaticAt, FieldAt, CellAt, ItemAt, got, assigned, assigned_with, changed, field_in}
use Rattle.apex_meaning.specs.Preparing.{prepared, new_instance}
use Rattle.apex_meaning.specs.Queries.{all_bound, on_bound, seen}
use Rattle.apex_meaning.specs.Records.{cell_in as record_cell, children_in, only, parent_in}

-- a variable, once its parts are evaluated
abbrev pub Where : Type 0
Where = State → Res Target

abbrev pub Entry : Type 0
Entry = State → Res (Value × Value)

-- a bind: how its value is given
abbrev pub Given : Type 0
Given = BindKind × Run

-- keys and values, from left to right
abbrev pub all_entries : List Entry → State → Res (List (Value × Value))
all_entries [] st = Gives [] st
all_entries (e ∷ es) st = bind (e st) (λ p s. bind (all_entries es s) (λ ps s1. Gives (p ∷ ps) s1))

abbrev pub parts_of : List Behind → Behind
parts_of [] v st = Gives v st
parts_of (p ∷ ps) v st = bind (p v st) (parts_of ps)

-- ---- casts: null is of every class

abbrev pub cast_if : Bool → Value → Run
cast_if true v st = Gives v st
cast_if false v st = throws InvalidConversion st

abbrev pub cast_to : (Kind → Bool) → Value → Run
cast_to fits (Plain c) st = Gives (Plain c) st
cast_to fits (Object r) st = cast_if (fits (kind_of_thing (slice_get st.world.heap r.place))) (Object r) st

module _ (setting : Setting) (again : Again) where
  -- a debug line: its text is charged before it is made, at 16 units and one for each byte
  abbrev pub say : List (List ℕ) → Behind
  say names v st =
      bind (charge Alloc (16 + length (text_of setting.schema names st.world.heap v)) st) (λ u s.
      Gives null (with_line (text_of setting.schema names st.world.heap v) s))

  -- ---- calls of declared methods

  -- a static method: the class is prepared behind the arguments
  abbrev pub call_static : ℕ → ℕ → List Value → Run
  call_static c m args st = bind (prepared setting.program again c st) (λ u s. called (again.body (Method c m) args null) s)

  abbrev pub call_found : Option (ℕ × ℕ) → List Value → Value → Run
  call_found None args this st = throws NullObject st
  call_found (Some at) args this st = called (again.body (Method at.0 at.1) args this) st

  abbrev pub call_by_kind : ℕ → ℕ → Kind → List Value → Value → Run
  call_by_kind c m (Declared k) args this st = call_found (target setting.program k c m) args this st
  call_by_kind c m kind args this st = throws NullObject st

  -- a method of an instance: the nearest one of the instance's own class, or this one itself
  abbrev pub call_on : ℕ → ℕ → Bool → List Value → Behind
  call_on c m virtual args (Plain k) st = throws NullObject st
  call_on c m true args (Object r) st = call_by_kind c m (kind_of_thing (slice_get st.world.heap r.place)) args (Object r) st
  call_on c m false args (Object r) st = called (again.body (Method c m) args (Object r)) st

  -- ---- the forms, each with what its parts do in their places: in this order binds, expressions, `new`, parts of paths, places,
  -- items of maps, operands and fields

  abbrev pub place_step : TypedPlace-F Given Run Run Behind Where Entry Behind (ℕ × Run) → Where
  place_step (TypedPlace-F.«TypedPlace::Local» x) st = Gives (LocalAt x) st
  place_step (TypedPlace-F.«TypedPlace::Static» c n) st = Gives (StaticAt c n) st
  place_step (TypedPlace-F.«TypedPlace::Field» e c n) st = bind (e st) (λ v s. Gives (FieldAt v c n) s)
  place_step (TypedPlace-F.«TypedPlace::Cell» e object field goes_on) st = bind (e st) (λ v s. Gives (CellAt v object field goes_on) s)
  place_step (TypedPlace-F.«TypedPlace::Index» e i) st = bind (e st) (λ v s. bind (i s) (λ w s1. Gives (ItemAt v w) s1))

  abbrev pub part_step : TypedPart-F Given Run Run Behind Where Entry Behind (ℕ × Run) → Behind
  part_step (TypedPart-F.«TypedPart::Field» c n) v st = field_in (field_place setting.program c n) v st
  part_step (TypedPart-F.«TypedPart::Cell» object field goes_on) v st = calc (record_cell setting.schema field goes_on v st.world.heap) st
  part_step (TypedPart-F.Parent object field goes_on) v st = calc (parent_in setting.schema field goes_on v st.world.heap) st
  part_step (TypedPart-F.Children object field goes_on) v st = calc (children_in setting.schema object field goes_on v st.world.heap) st
  part_step (TypedPart-F.«TypedPart::Index» e) v st = bind (e st) (λ i s. on_collection (B.List L.Get) v (i ∷ []) s)
  part_step (TypedPart-F.Call c m virtual es) v st = bind (all_of es st) (λ args s. call_on c m virtual args v s)
  part_step (TypedPart-F.Builtin which es) v st = bind (all_of es st) (λ args s. called_builtin setting.program setting.ticket which (v ∷ args) s)

  abbrev pub new_step : TypedNew-F Given Run Run Behind Where Entry Behind (ℕ × Run) → Run
  new_step (TypedNew-F.Instance c k es) st = bind (all_of es st) (new_instance setting.program again c k)
  new_step (TypedNew-F.Exception c es) st = bind (all_of es st) (make_exception c)
  new_step (TypedNew-F.Record object ps) st = bind (all_pairs ps st) (make_record (site_of setting) object)
  new_step (TypedNew-F.Collection kind es) st = bind (all_of es st) (make_filled kind)
  new_step (TypedNew-F.Map key items) st = bind (all_entries items st) make_map
  new_step (TypedNew-F.Copy kind e) st = bind (e st) (make_copy kind)
  new_step (TypedNew-F.ById e) st = bind (e st) (make_copy (Kinds.Map Primitive.Id))

  abbrev pub chosen : Run → Run → Bool → Run
  chosen a b true st = a st
  chosen a b false st = b st

module _ (setting : Setting) (again : Again) (names : List (List ℕ)) where
  abbrev pub expr_step : TypedExpr-F Given Run Run Behind Where Entry Behind (ℕ × Run) → Run
  expr_step (TypedExpr-F.Constant k) st = constant (is_cell k) k st
  expr_step (TypedExpr-F.«TypedExpr::Local» x) st = Gives (slice_index_or st.here.locals x null) st
  expr_step (TypedExpr-F.«TypedExpr::Static» c n) st = got setting again (StaticAt c n) st
  expr_step TypedExpr-F.This st = Gives st.here.this st
  expr_step (TypedExpr-F.Postfix e ps) st = bind (e st) (parts_of ps)
  expr_step (TypedExpr-F.Chain e os) st = bind (e st) (chained os)
  expr_step (TypedExpr-F.Convert ToRecord e) st = bind (e st) (λ v s. calc (only v s.world.heap) s)
  expr_step (TypedExpr-F.Convert c e) st = bind (e st) (λ v s. calc (converted c v) s)
  expr_step (TypedExpr-F.Not e) st = bind (test e st) (λ b s. Gives (boolean (cond b false true)) s)
  expr_step (TypedExpr-F.Minus n e) st = bind (e st) (λ v s. calc (negated n v) s)
  expr_step (TypedExpr-F.Conditional c a b) st = bind (test c st) (chosen setting again a b)
  expr_step (TypedExpr-F.Assign t e) st = bind (t st) (assigned setting again e)
  expr_step (TypedExpr-F.AssignWith t how e) st = bind (t st) (assigned_with setting again how e)
  expr_step (TypedExpr-F.Step kind n t) st = bind (t st) (changed setting again kind n)
  expr_step (TypedExpr-F.Cast c e) st = bind (e st) (cast_to (is_declared setting.program c))
  expr_step (TypedExpr-F.CastException c e) st = bind (e st) (cast_to (is_built_in c))
  expr_step (TypedExpr-F.New n) st = n st
  expr_step (TypedExpr-F.CallStatic c m es) st = bind (all_of es st) (call_static setting again c m)
  expr_step (TypedExpr-F.CallBuiltin which es) st = bind (all_of es st) (called_builtin setting.program setting.ticket which)
  expr_step (TypedExpr-F.Debug e) st = bind (e st) (say setting again names)
  expr_step (TypedExpr-F.Query q binds) st =
      bind (all_of (map (λ (b : Given). b.1) binds) st) (λ vs s. on_bound (site_of setting) (queried q) (all_bound (map (λ (b : Given). b.0) binds) vs s.world.heap) s)
  expr_step (TypedExpr-F.TriggerVariable t) st = field_in (place_of t) st.here.this st

  abbrev pub bind_step : TypedBind-F Given Run Run Behind Where Entry Behind (ℕ × Run) → Given
  bind_step (TypedBind-F.One e) = (One, e)
  bind_step (TypedBind-F.Many how e) = (Many how, λ st. bind (e st) seen)

  abbrev pub item_step : TypedItem-F Given Run Run Behind Where Entry Behind (ℕ × Run) → Entry
  item_step i st = bind (i.key st) (λ k s. bind (i.value s) (λ v s1. Gives (k, v) s1))

  abbrev pub operand_step : TypedOperand-F Given Run Run Behind Where Entry Behind (ℕ × Run) → Behind
  operand_step o = operated o.left o.op o.right o.value

  abbrev pub pair_step : TypedPair-F Given Run Run Behind Where Entry Behind (ℕ × Run) → ℕ × Run
  pair_step p = (p.field, p.value)

  abbrev pub value_of : TypedExpr → Run
  value_of = fold-TypedExpr Given Run Run Behind Where Entry Behind (ℕ × Run) bind_step expr_step (new_step setting again) (part_step setting again) (place_step setting again) item_step operand_step pair_step
