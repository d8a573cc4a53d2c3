-- The code of every expression is a piece whose jumps stay within it.
use Rattle.std.proofs.Common.{◌≡◌, ℕ, Bool, true, false, List, [], ◌∷◌, ◌++◌, map, replicate, refl, sym, ap, ◌∙◌, subst}
use Rattle.request_states.specs.Values.{cell_of, is_cell}
use Rattle.apex_rows.specs.declared.query.Query.{Query}
use Rattle.query_records.specs.Shapes.{queried}
use Rattle.apex_meaning.specs.Classes.{field_place}
use Rattle.static_types.specs.declared.kind.Primitive.TheVariants as Primitive
use Rattle.typed_program.specs.declared.expr.CollectionKind.TheVariants as Kinds
use Rattle.typed_program.specs.declared.expr.Constant.{Constant}
use Rattle.typed_program.specs.declared.expr.Constructor.{Constructor}
use Rattle.typed_program.specs.declared.expr.Constructor.TheVariants as K
use Rattle.typed_program.specs.declared.expr.Conversion.{Conversion}
use Rattle.typed_program.specs.declared.expr.Conversion.TheVariants as Conv
use Rattle.typed_program.specs.declared.expr.TypedBind.{TypedBind}
use Rattle.typed_program.specs.declared.expr.TypedExpr.{TypedExpr}
use Rattle.typed_program.specs.declared.expr.TypedItem.{TypedItem}
use Rattle.typed_program.specs.declared.expr.TypedNew.{TypedNew}
use Rattle.typed_program.specs.declared.expr.TypedOperand.{TypedOperand}
use Rattle.typed_program.specs.declared.expr.TypedPair.{TypedPair}
use Rattle.typed_program.specs.declared.expr.TypedPart.{TypedPart}
use Rattle.typed_program.specs.declared.expr.TypedPlace.{TypedPlace}
use Rattle.typed_program.specs.declared.expr.TypedBind.TheOpen.{TypedBind-F, TypedExpr-F, TypedNew-F, TypedPart-F, TypedPlace-F, TypedItem-F, TypedOperand-F, TypedPair-F}
use Rattle.typed_program.specs.declared.expr.TypedBind.TheViews.{roll-TypedBind, roll-TypedExpr, roll-TypedNew, roll-TypedPart, roll-TypedPlace, roll-TypedItem, roll-TypedOperand, roll-TypedPair}
use Rattle.typed_program.specs.declared.expr.TypedBind.TheFolds.{fold-TypedBind, fold-TypedNew, fold-TypedPart, fold-TypedPlace, fold-TypedItem, fold-TypedOperand, fold-TypedPair, fold-roll-TypedBind, fold-roll-TypedExpr, fold-roll-TypedNew, fold-roll-TypedPart, fold-roll-TypedPlace, fold-roll-TypedItem, fold-roll-TypedOperand, fold-roll-TypedPair, ind-TypedExpr, map-TypedBind, map-TypedExpr, map-TypedNew, map-TypedPart, map-TypedPlace, map-TypedItem, map-TypedOperand, map-TypedPair}
use Rattle.trigger_things.specs.Things.{place_of}
use Rattle.typed_program.specs.declared.program.Program.{Program}
use Rattle.stack_code.specs.declared.code.Instr.{Instr}
use Rattle.stack_code.specs.declared.code.Instr.TheVariants as I
use Rattle.stack_code.specs.declared.code.Slot.TheVariants as S
use Rattle.stack_code.specs.Code.{Given, Instrs, PlaceCode, unbuilt, joined, constant_code, call_code, new_code, pairs_code, bind_step, expr_step, new_step, part_step, place_step, item_step, operand_step, pair_step, expr_code}
use Rattle.program_checks.proofs.Pieces.{Fine, Closed, closed_same, closed_nil, closed_append, closed_cons, closed_one, closed_then, closed_pops, closed_joined}
use Rattle.program_checks.proofs.Forms.{operator_closed, choice_closed}

module _ (b : Bool) where
  unbuilt_closed : Closed b unbuilt
  unbuilt_closed = closed_one b I.Unbuilt (λ code pc. tt)

  constant_closed : (built : Bool) (k : Constant) → Closed b (constant_code built k)
  constant_closed true k = closed_one b (I.Push (cell_of k)) (λ code pc. tt)
  constant_closed false k = unbuilt_closed

  convert_closed : (how : Conversion) (e : Instrs) → Closed b e → Closed b (expr_step (TypedExpr-F.Convert how e))
  convert_closed Conv.Same e h = closed_then b e (I.Convert Conv.Same) (λ code pc. tt) h
  convert_closed Conv.ToLong e h = closed_then b e (I.Convert Conv.ToLong) (λ code pc. tt) h
  convert_closed Conv.ToDecimal e h = closed_then b e (I.Convert Conv.ToDecimal) (λ code pc. tt) h
  convert_closed Conv.ToId e h = closed_then b e (I.Convert Conv.ToId) (λ code pc. tt) h
  convert_closed Conv.ToText e h = closed_then b e (I.Convert Conv.ToText) (λ code pc. tt) h
  convert_closed Conv.ToRecord e h = closed_then b e I.Only (λ code pc. tt) h

  call_closed : (virtual : Bool) (c m n : ℕ) → Closed b (call_code virtual c m n ∷ [])
  call_closed true c m n = closed_one b (I.Call c m n) (λ code pc. tt)
  call_closed false c m n = closed_one b (I.CallThis c m n) (λ code pc. tt)

  new_code_closed : (c : ℕ) (k : Constructor) (n : ℕ) → Closed b (new_code c k n)
  new_code_closed c (K.Declared k) n = closed_cons b (I.Prepare c) (I.New c k n ∷ []) (λ code pc. tt) (closed_one b (I.New c k n) (λ code pc. tt))
  new_code_closed c K.Implied n = closed_cons b (I.Prepare c) (replicate n I.Pop ++ I.NewPlain c ∷ []) (λ code pc. tt) (closed_then b (replicate n I.Pop) (I.NewPlain c) (λ code pc. tt) (closed_pops b n))
  new_code_closed c K.Exception n = closed_cons b (I.Prepare c) (I.NewPlain c ∷ I.Message n ∷ []) (λ code pc. tt) (closed_cons b (I.NewPlain c) (I.Message n ∷ []) (λ code pc. tt) (closed_one b (I.Message n) (λ code pc. tt)))

  pub record PlaceClosed (p : PlaceCode) : Type 0 where
    pub parts : Closed b p.parts
    pub ready : Closed b p.ready

module _ (program : Program) (b : Bool) where
  -- ---- the code of the parts

  abbrev bind_code : TypedBind → Given
  bind_code = fold-TypedBind Given Instrs Instrs Instrs PlaceCode Instrs Instrs (ℕ × Instrs) bind_step expr_step new_step (part_step program) (place_step program) item_step operand_step pair_step

  abbrev new_is_code : TypedNew → Instrs
  new_is_code = fold-TypedNew Given Instrs Instrs Instrs PlaceCode Instrs Instrs (ℕ × Instrs) bind_step expr_step new_step (part_step program) (place_step program) item_step operand_step pair_step

  abbrev part_code : TypedPart → Instrs
  part_code = fold-TypedPart Given Instrs Instrs Instrs PlaceCode Instrs Instrs (ℕ × Instrs) bind_step expr_step new_step (part_step program) (place_step program) item_step operand_step pair_step

  abbrev place_code : TypedPlace → PlaceCode
  place_code = fold-TypedPlace Given Instrs Instrs Instrs PlaceCode Instrs Instrs (ℕ × Instrs) bind_step expr_step new_step (part_step program) (place_step program) item_step operand_step pair_step

  abbrev item_code : TypedItem → Instrs
  item_code = fold-TypedItem Given Instrs Instrs Instrs PlaceCode Instrs Instrs (ℕ × Instrs) bind_step expr_step new_step (part_step program) (place_step program) item_step operand_step pair_step

  abbrev operand_code : TypedOperand → Instrs
  operand_code = fold-TypedOperand Given Instrs Instrs Instrs PlaceCode Instrs Instrs (ℕ × Instrs) bind_step expr_step new_step (part_step program) (place_step program) item_step operand_step pair_step

  abbrev pair_code : TypedPair → ℕ × Instrs
  pair_code = fold-TypedPair Given Instrs Instrs Instrs PlaceCode Instrs Instrs (ℕ × Instrs) bind_step expr_step new_step (part_step program) (place_step program) item_step operand_step pair_step

  -- ---- what holds of each part of an expression

  abbrev SuchBind : Type 0
  SuchBind = (x : TypedBind) × Closed b (bind_code x).1

  abbrev SuchExpr : Type 0
  SuchExpr = (e : TypedExpr) × Closed b (expr_code program e)

  abbrev SuchNew : Type 0
  SuchNew = (n : TypedNew) × Closed b (new_is_code n)

  abbrev SuchPart : Type 0
  SuchPart = (p : TypedPart) × Closed b (part_code p)

  abbrev SuchPlace : Type 0
  SuchPlace = (p : TypedPlace) × PlaceClosed b (place_code p)

  abbrev SuchItem : Type 0
  SuchItem = (i : TypedItem) × Closed b (item_code i)

  abbrev SuchOperand : Type 0
  SuchOperand = (o : TypedOperand) × Closed b (operand_code o)

  abbrev SuchPair : Type 0
  SuchPair = (p : TypedPair) × Closed b (pair_code p).1

  pairs_closed : (ps : List SuchPair) → Closed b (pairs_code (map pair_code (map (λ (p : SuchPair). p.0) ps)))
  pairs_closed [] = closed_nil b
  pairs_closed (p ∷ ps) = closed_append b (pair_code p.0).1 (pairs_code (map pair_code (map (λ (x : SuchPair). x.0) ps))) p.1 (pairs_closed ps)

  binds_closed : (bs : List SuchBind) → Closed b (joined (map (λ (g : Given). g.1) (map bind_code (map (λ (x : SuchBind). x.0) bs))))
  binds_closed [] = closed_nil b
  binds_closed (x ∷ bs) = closed_append b (bind_code x.0).1 (joined (map (λ (g : Given). g.1) (map bind_code (map (λ (z : SuchBind). z.0) bs)))) x.1 (binds_closed bs)

  -- arguments, and what is made of them
  with_values : (es : List SuchExpr) (is : Instrs) → Closed b is → Closed b (joined (map (expr_code program) (map (λ (e : SuchExpr). e.0) es)) ++ is)
  with_values es is h = closed_append b (joined (map (expr_code program) (map (λ (e : SuchExpr). e.0) es))) is (closed_joined b (expr_code program) es) h

  -- ---- layers over such parts, and the trees that they make

  abbrev bind_in : TypedBind-F SuchBind SuchExpr SuchNew SuchPart SuchPlace SuchItem SuchOperand SuchPair → TypedBind
  bind_in y = roll-TypedBind (map-TypedBind SuchBind SuchExpr SuchNew SuchPart SuchPlace SuchItem SuchOperand SuchPair TypedBind TypedExpr TypedNew TypedPart TypedPlace TypedItem TypedOperand TypedPair (λ e. e.0) (λ e. e.0) (λ e. e.0) (λ e. e.0) (λ e. e.0) (λ e. e.0) (λ e. e.0) (λ e. e.0) y)

  abbrev expr_in : TypedExpr-F SuchBind SuchExpr SuchNew SuchPart SuchPlace SuchItem SuchOperand SuchPair → TypedExpr
  expr_in y = roll-TypedExpr (map-TypedExpr SuchBind SuchExpr SuchNew SuchPart SuchPlace SuchItem SuchOperand SuchPair TypedBind TypedExpr TypedNew TypedPart TypedPlace TypedItem TypedOperand TypedPair (λ e. e.0) (λ e. e.0) (λ e. e.0) (λ e. e.0) (λ e. e.0) (λ e. e.0) (λ e. e.0) (λ e. e.0) y)

  abbrev new_in : TypedNew-F SuchBind SuchExpr SuchNew SuchPart SuchPlace SuchItem SuchOperand SuchPair → TypedNew
  new_in y = roll-TypedNew (map-TypedNew SuchBind SuchExpr SuchNew SuchPart SuchPlace SuchItem SuchOperand SuchPair TypedBind TypedExpr TypedNew TypedPart TypedPlace TypedItem TypedOperand TypedPair (λ e. e.0) (λ e. e.0) (λ e. e.0) (λ e. e.0) (λ e. e.0) (λ e. e.0) (λ e. e.0) (λ e. e.0) y)

  abbrev part_in : TypedPart-F SuchBind SuchExpr SuchNew SuchPart SuchPlace SuchItem SuchOperand SuchPair → TypedPart
  part_in y = roll-TypedPart (map-TypedPart SuchBind SuchExpr SuchNew SuchPart SuchPlace SuchItem SuchOperand SuchPair TypedBind TypedExpr TypedNew TypedPart TypedPlace TypedItem TypedOperand TypedPair (λ e. e.0) (λ e. e.0) (λ e. e.0) (λ e. e.0) (λ e. e.0) (λ e. e.0) (λ e. e.0) (λ e. e.0) y)

  abbrev place_in : TypedPlace-F SuchBind SuchExpr SuchNew SuchPart SuchPlace SuchItem SuchOperand SuchPair → TypedPlace
  place_in y = roll-TypedPlace (map-TypedPlace SuchBind SuchExpr SuchNew SuchPart SuchPlace SuchItem SuchOperand SuchPair TypedBind TypedExpr TypedNew TypedPart TypedPlace TypedItem TypedOperand TypedPair (λ e. e.0) (λ e. e.0) (λ e. e.0) (λ e. e.0) (λ e. e.0) (λ e. e.0) (λ e. e.0) (λ e. e.0) y)

  abbrev item_in : TypedItem-F SuchBind SuchExpr SuchNew SuchPart SuchPlace SuchItem SuchOperand SuchPair → TypedItem
  item_in y = roll-TypedItem (map-TypedItem SuchBind SuchExpr SuchNew SuchPart SuchPlace SuchItem SuchOperand SuchPair TypedBind TypedExpr TypedNew TypedPart TypedPlace TypedItem TypedOperand TypedPair (λ e. e.0) (λ e. e.0) (λ e. e.0) (λ e. e.0) (λ e. e.0) (λ e. e.0) (λ e. e.0) (λ e. e.0) y)

  abbrev operand_in : TypedOperand-F SuchBind SuchExpr SuchNew SuchPart SuchPlace SuchItem SuchOperand SuchPair → TypedOperand
  operand_in y = roll-TypedOperand (map-TypedOperand SuchBind SuchExpr SuchNew SuchPart SuchPlace SuchItem SuchOperand SuchPair TypedBind TypedExpr TypedNew TypedPart TypedPlace TypedItem TypedOperand TypedPair (λ e. e.0) (λ e. e.0) (λ e. e.0) (λ e. e.0) (λ e. e.0) (λ e. e.0) (λ e. e.0) (λ e. e.0) y)

  abbrev pair_in : TypedPair-F SuchBind SuchExpr SuchNew SuchPart SuchPlace SuchItem SuchOperand SuchPair → TypedPair
  pair_in y = roll-TypedPair (map-TypedPair SuchBind SuchExpr SuchNew SuchPart SuchPlace SuchItem SuchOperand SuchPair TypedBind TypedExpr TypedNew TypedPart TypedPlace TypedItem TypedOperand TypedPair (λ e. e.0) (λ e. e.0) (λ e. e.0) (λ e. e.0) (λ e. e.0) (λ e. e.0) (λ e. e.0) (λ e. e.0) y)

  expr_is : (z : TypedExpr-F TypedBind TypedExpr TypedNew TypedPart TypedPlace TypedItem TypedOperand TypedPair) (is : Instrs) → expr_step (map-TypedExpr TypedBind TypedExpr TypedNew TypedPart TypedPlace TypedItem TypedOperand TypedPair Given Instrs Instrs Instrs PlaceCode Instrs Instrs (ℕ × Instrs) bind_code (expr_code program) new_is_code part_code place_code item_code operand_code pair_code z) ≡ is → Closed b is → Closed b (expr_code program (roll-TypedExpr z))
  expr_is z is e h = closed_same b (expr_code program (roll-TypedExpr z)) is (fold-roll-TypedExpr Given Instrs Instrs Instrs PlaceCode Instrs Instrs (ℕ × Instrs) bind_step expr_step new_step (part_step program) (place_step program) item_step operand_step pair_step z ∙ e) h

  bind_is : (z : TypedBind-F TypedBind TypedExpr TypedNew TypedPart TypedPlace TypedItem TypedOperand TypedPair) → Closed b (bind_step (map-TypedBind TypedBind TypedExpr TypedNew TypedPart TypedPlace TypedItem TypedOperand TypedPair Given Instrs Instrs Instrs PlaceCode Instrs Instrs (ℕ × Instrs) bind_code (expr_code program) new_is_code part_code place_code item_code operand_code pair_code z)).1 → Closed b (bind_code (roll-TypedBind z)).1
  bind_is z h = subst (λ (g : Given). Closed b g.1) (sym (fold-roll-TypedBind Given Instrs Instrs Instrs PlaceCode Instrs Instrs (ℕ × Instrs) bind_step expr_step new_step (part_step program) (place_step program) item_step operand_step pair_step z)) h

  new_is : (z : TypedNew-F TypedBind TypedExpr TypedNew TypedPart TypedPlace TypedItem TypedOperand TypedPair) (is : Instrs) → new_step (map-TypedNew TypedBind TypedExpr TypedNew TypedPart TypedPlace TypedItem TypedOperand TypedPair Given Instrs Instrs Instrs PlaceCode Instrs Instrs (ℕ × Instrs) bind_code (expr_code program) new_is_code part_code place_code item_code operand_code pair_code z) ≡ is → Closed b is → Closed b (new_is_code (roll-TypedNew z))
  new_is z is e h = closed_same b (new_is_code (roll-TypedNew z)) is (fold-roll-TypedNew Given Instrs Instrs Instrs PlaceCode Instrs Instrs (ℕ × Instrs) bind_step expr_step new_step (part_step program) (place_step program) item_step operand_step pair_step z ∙ e) h

  part_is : (z : TypedPart-F TypedBind TypedExpr TypedNew TypedPart TypedPlace TypedItem TypedOperand TypedPair) (is : Instrs) → part_step program (map-TypedPart TypedBind TypedExpr TypedNew TypedPart TypedPlace TypedItem TypedOperand TypedPair Given Instrs Instrs Instrs PlaceCode Instrs Instrs (ℕ × Instrs) bind_code (expr_code program) new_is_code part_code place_code item_code operand_code pair_code z) ≡ is → Closed b is → Closed b (part_code (roll-TypedPart z))
  part_is z is e h = closed_same b (part_code (roll-TypedPart z)) is (fold-roll-TypedPart Given Instrs Instrs Instrs PlaceCode Instrs Instrs (ℕ × Instrs) bind_step expr_step new_step (part_step program) (place_step program) item_step operand_step pair_step z ∙ e) h

  place_is : (z : TypedPlace-F TypedBind TypedExpr TypedNew TypedPart TypedPlace TypedItem TypedOperand TypedPair) → PlaceClosed b (place_step program (map-TypedPlace TypedBind TypedExpr TypedNew TypedPart TypedPlace TypedItem TypedOperand TypedPair Given Instrs Instrs Instrs PlaceCode Instrs Instrs (ℕ × Instrs) bind_code (expr_code program) new_is_code part_code place_code item_code operand_code pair_code z)) → PlaceClosed b (place_code (roll-TypedPlace z))
  place_is z h = subst (PlaceClosed b) (sym (fold-roll-TypedPlace Given Instrs Instrs Instrs PlaceCode Instrs Instrs (ℕ × Instrs) bind_step expr_step new_step (part_step program) (place_step program) item_step operand_step pair_step z)) h

  -- ---- places, parts and what is new

  place_layer : (y : TypedPlace-F SuchBind SuchExpr SuchNew SuchPart SuchPlace SuchItem SuchOperand SuchPair) → PlaceClosed b (place_code (place_in y))
  place_layer (TypedPlace-F.«TypedPlace::Local» x) = place_is (TypedPlace-F.«TypedPlace::Local» x) (record { parts = closed_nil b; ready = closed_nil b })
  place_layer (TypedPlace-F.«TypedPlace::Static» c n) = place_is (TypedPlace-F.«TypedPlace::Static» c n) (record { parts = closed_nil b; ready = closed_one b (I.Prepare c) (λ code pc. tt) })
  place_layer (TypedPlace-F.«TypedPlace::Field» e c n) = place_is (TypedPlace-F.«TypedPlace::Field» e.0 c n) (record { parts = e.1; ready = closed_nil b })
  place_layer (TypedPlace-F.«TypedPlace::Cell» e o n g) = place_is (TypedPlace-F.«TypedPlace::Cell» e.0 o n g) (record { parts = e.1; ready = closed_nil b })
  place_layer (TypedPlace-F.«TypedPlace::Index» e i) = place_is (TypedPlace-F.«TypedPlace::Index» e.0 i.0) (record { parts = closed_append b (expr_code program e.0) (expr_code program i.0) e.1 i.1; ready = closed_nil b })

  part_layer : (y : TypedPart-F SuchBind SuchExpr SuchNew SuchPart SuchPlace SuchItem SuchOperand SuchPair) → Closed b (part_code (part_in y))
  part_layer (TypedPart-F.«TypedPart::Field» c n) = part_is (TypedPart-F.«TypedPart::Field» c n) _ refl (closed_one b (I.Get (S.Field (field_place program c n))) (λ code pc. tt))
  part_layer (TypedPart-F.«TypedPart::Cell» o n m) = part_is (TypedPart-F.«TypedPart::Cell» o n m) _ refl (closed_one b (I.Get (S.Cell n m)) (λ code pc. tt))
  part_layer (TypedPart-F.Parent o n m) = part_is (TypedPart-F.Parent o n m) _ refl (closed_one b (I.Parent n m) (λ code pc. tt))
  part_layer (TypedPart-F.Children o n m) = part_is (TypedPart-F.Children o n m) _ refl (closed_one b (I.Children o n m) (λ code pc. tt))
  part_layer (TypedPart-F.«TypedPart::Index» e) = part_is (TypedPart-F.«TypedPart::Index» e.0) _ refl (closed_then b (expr_code program e.0) (I.Get S.Item) (λ code pc. tt) e.1)
  part_layer (TypedPart-F.Call c m v es) = part_is (TypedPart-F.Call c m v (map (λ (e : SuchExpr). e.0) es)) _ refl (with_values es _ (call_closed b v c m _))
  part_layer (TypedPart-F.Builtin w es) = part_is (TypedPart-F.Builtin w (map (λ (e : SuchExpr). e.0) es)) _ refl (with_values es _ (closed_one b (I.Builtin w _) (λ code pc. tt)))

  new_layer : (y : TypedNew-F SuchBind SuchExpr SuchNew SuchPart SuchPlace SuchItem SuchOperand SuchPair) → Closed b (new_is_code (new_in y))
  new_layer (TypedNew-F.Instance c k es) = new_is (TypedNew-F.Instance c k (map (λ (e : SuchExpr). e.0) es)) _ refl (with_values es _ (new_code_closed b c k _))
  new_layer (TypedNew-F.Exception c es) = new_is (TypedNew-F.Exception c (map (λ (e : SuchExpr). e.0) es)) _ refl (with_values es _ (closed_one b (I.Exception c _) (λ code pc. tt)))
  new_layer (TypedNew-F.Record o ps) = new_is (TypedNew-F.Record o (map (λ (p : SuchPair). p.0) ps)) _ refl (closed_then b (pairs_code (map pair_code (map (λ (p : SuchPair). p.0) ps))) (I.Record o _) (λ code pc. tt) (pairs_closed ps))
  new_layer (TypedNew-F.Collection k es) = new_is (TypedNew-F.Collection k (map (λ (e : SuchExpr). e.0) es)) _ refl (with_values es _ (closed_one b (I.Filled k _) (λ code pc. tt)))
  new_layer (TypedNew-F.Map k is) = new_is (TypedNew-F.Map k (map (λ (i : SuchItem). i.0) is)) _ refl (closed_then b (joined (map item_code (map (λ (i : SuchItem). i.0) is))) (I.Entries _) (λ code pc. tt) (closed_joined b item_code is))
  new_layer (TypedNew-F.Copy k e) = new_is (TypedNew-F.Copy k e.0) _ refl (closed_then b (expr_code program e.0) (I.Copied k) (λ code pc. tt) e.1)
  new_layer (TypedNew-F.ById e) = new_is (TypedNew-F.ById e.0) _ refl (closed_then b (expr_code program e.0) (I.Copied (Kinds.Map Primitive.Id)) (λ code pc. tt) e.1)

  item_layer : (y : TypedItem-F SuchBind SuchExpr SuchNew SuchPart SuchPlace SuchItem SuchOperand SuchPair) → Closed b (item_code (item_in y))
  item_layer y =
      subst (Closed b) (sym (fold-roll-TypedItem Given Instrs Instrs Instrs PlaceCode Instrs Instrs (ℕ × Instrs) bind_step expr_step new_step (part_step program) (place_step program) item_step operand_step pair_step (record { key = y.key.0; value = y.value.0 })))
      (closed_append b (expr_code program y.key.0) (expr_code program y.value.0) y.key.1 y.value.1)

  operand_layer : (y : TypedOperand-F SuchBind SuchExpr SuchNew SuchPart SuchPlace SuchItem SuchOperand SuchPair) → Closed b (operand_code (operand_in y))
  operand_layer y =
      subst (Closed b) (sym (fold-roll-TypedOperand Given Instrs Instrs Instrs PlaceCode Instrs Instrs (ℕ × Instrs) bind_step expr_step new_step (part_step program) (place_step program) item_step operand_step pair_step (record { left = y.left; op = y.op; right = y.right; value = y.value.0 })))
      (operator_closed b y.left y.op y.right (expr_code program y.value.0) y.value.1)

  pair_layer : (y : TypedPair-F SuchBind SuchExpr SuchNew SuchPart SuchPlace SuchItem SuchOperand SuchPair) → Closed b (pair_code (pair_in y)).1
  pair_layer y =
      subst (Closed b) (sym (ap (λ p. p.1) (fold-roll-TypedPair Given Instrs Instrs Instrs PlaceCode Instrs Instrs (ℕ × Instrs) bind_step expr_step new_step (part_step program) (place_step program) item_step operand_step pair_step (record { field = y.field; value = y.value.0 })))) y.value.1

  -- ---- expressions

  set_closed : (p : SuchPlace) (e : SuchExpr) → Closed b ((place_code p.0).parts ++ (expr_code program e.0 ++ ((place_code p.0).ready ++ I.Set (place_code p.0).slot ∷ [])))
  set_closed p e =
      let t : PlaceCode = place_code p.0 in
      closed_append b t.parts (expr_code program e.0 ++ (t.ready ++ I.Set t.slot ∷ [])) p.1.parts
      (closed_append b (expr_code program e.0) (t.ready ++ I.Set t.slot ∷ []) e.1 (closed_then b t.ready (I.Set t.slot) (λ code pc. tt) p.1.ready))

  set_with_closed : (p : SuchPlace) (i j : Instr) (e : SuchExpr) → ((code : List Instr) (pc : ℕ) → Fine b code pc (i ∷ j ∷ [])) → Closed b ((place_code p.0).parts ++ ((place_code p.0).ready ++ I.Fetch (place_code p.0).slot ∷ (expr_code program e.0 ++ i ∷ j ∷ I.Set (place_code p.0).slot ∷ [])))
  set_with_closed p i j e f =
      let t : PlaceCode = place_code p.0 in
      let end : Instrs = i ∷ j ∷ I.Set t.slot ∷ [] in
      closed_append b t.parts (t.ready ++ I.Fetch t.slot ∷ (expr_code program e.0 ++ end)) p.1.parts
      (closed_append b t.ready (I.Fetch t.slot ∷ (expr_code program e.0 ++ end)) p.1.ready
      (closed_cons b (I.Fetch t.slot) (expr_code program e.0 ++ end) (λ code pc. tt)
      (closed_append b (expr_code program e.0) end e.1 (λ code pc at. ((f code pc).0, ((f code pc).1.0, (tt, tt)))))))

  change_closed : (p : SuchPlace) (i : Instr) → ((code : List Instr) (pc : ℕ) → Fine b code pc (i ∷ [])) → Closed b ((place_code p.0).parts ++ ((place_code p.0).ready ++ i ∷ []))
  change_closed p i f =
      let t : PlaceCode = place_code p.0 in
      closed_append b t.parts (t.ready ++ i ∷ []) p.1.parts (closed_append b t.ready (i ∷ []) p.1.ready (λ code pc at. f code pc))

  query_closed : (q : Query) (bs : List SuchBind) → Closed b (expr_step (TypedExpr-F.Query q (map bind_code (map (λ (x : SuchBind). x.0) bs))))
  query_closed q bs =
      closed_then b (joined (map (λ (g : Given). g.1) (map bind_code (map (λ (x : SuchBind). x.0) bs)))) (I.Query (queried q) (map (λ (g : Given). g.0) (map bind_code (map (λ (x : SuchBind). x.0) bs)))) (λ code pc. tt) (binds_closed bs)

  bind_layer : (y : TypedBind-F SuchBind SuchExpr SuchNew SuchPart SuchPlace SuchItem SuchOperand SuchPair) → Closed b (bind_code (bind_in y)).1
  bind_layer (TypedBind-F.One e) = bind_is (TypedBind-F.One e.0) e.1
  bind_layer (TypedBind-F.Many how e) = bind_is (TypedBind-F.Many how e.0) (closed_then b (expr_code program e.0) I.Seen (λ code pc. tt) e.1)

  expr_layer : (y : TypedExpr-F SuchBind SuchExpr SuchNew SuchPart SuchPlace SuchItem SuchOperand SuchPair) → Closed b (expr_code program (expr_in y))
  expr_layer (TypedExpr-F.Constant k) = expr_is (TypedExpr-F.Constant k) _ refl (constant_closed b (is_cell k) k)
  expr_layer (TypedExpr-F.«TypedExpr::Local» x) = expr_is (TypedExpr-F.«TypedExpr::Local» x) _ refl (closed_one b (I.Get (S.Local x)) (λ code pc. tt))
  expr_layer (TypedExpr-F.«TypedExpr::Static» c n) = expr_is (TypedExpr-F.«TypedExpr::Static» c n) _ refl (closed_cons b (I.Prepare c) (I.Get (S.Static c n) ∷ []) (λ code pc. tt) (closed_one b (I.Get (S.Static c n)) (λ code pc. tt)))
  expr_layer TypedExpr-F.This = expr_is TypedExpr-F.This _ refl (closed_one b I.This (λ code pc. tt))
  expr_layer (TypedExpr-F.TriggerVariable v) = expr_is (TypedExpr-F.TriggerVariable v) _ refl (closed_cons b I.This (I.Get (S.Field (place_of v)) ∷ []) (λ code pc. tt) (closed_one b (I.Get (S.Field (place_of v))) (λ code pc. tt)))
  expr_layer (TypedExpr-F.Postfix e ps) = expr_is (TypedExpr-F.Postfix e.0 (map (λ (p : SuchPart). p.0) ps)) _ refl (closed_append b (expr_code program e.0) (joined (map part_code (map (λ (p : SuchPart). p.0) ps))) e.1 (closed_joined b part_code ps))
  expr_layer (TypedExpr-F.Chain e os) = expr_is (TypedExpr-F.Chain e.0 (map (λ (o : SuchOperand). o.0) os)) _ refl (closed_append b (expr_code program e.0) (joined (map operand_code (map (λ (o : SuchOperand). o.0) os))) e.1 (closed_joined b operand_code os))
  expr_layer (TypedExpr-F.Convert how e) = expr_is (TypedExpr-F.Convert how e.0) _ refl (convert_closed b how (expr_code program e.0) e.1)
  expr_layer (TypedExpr-F.Not e) = expr_is (TypedExpr-F.Not e.0) _ refl (closed_then b (expr_code program e.0) I.Not (λ code pc. tt) e.1)
  expr_layer (TypedExpr-F.Minus n e) = expr_is (TypedExpr-F.Minus n e.0) _ refl (closed_then b (expr_code program e.0) (I.Negate n) (λ code pc. tt) e.1)
  expr_layer (TypedExpr-F.Conditional c x y) = expr_is (TypedExpr-F.Conditional c.0 x.0 y.0) _ refl (closed_append b (expr_code program c.0) _ c.1 (choice_closed b (expr_code program x.0) (expr_code program y.0) x.1 y.1))
  expr_layer (TypedExpr-F.Assign p e) = expr_is (TypedExpr-F.Assign p.0 e.0) _ refl (set_closed p e)
  expr_layer (TypedExpr-F.AssignWith p how e) = expr_is (TypedExpr-F.AssignWith p.0 how e.0) _ refl (set_with_closed p (I.Calc how.left how.op how.right) (I.Convert how.back) e (λ code pc. (tt, (tt, tt))))
  expr_layer (TypedExpr-F.Step kind n p) = expr_is (TypedExpr-F.Step kind n p.0) _ refl (change_closed p (I.Change kind n (place_code p.0).slot) (λ code pc. (tt, tt)))
  expr_layer (TypedExpr-F.Cast c e) = expr_is (TypedExpr-F.Cast c e.0) _ refl (closed_then b (expr_code program e.0) (I.Cast c) (λ code pc. tt) e.1)
  expr_layer (TypedExpr-F.CastException c e) = expr_is (TypedExpr-F.CastException c e.0) _ refl (closed_then b (expr_code program e.0) (I.CastException c) (λ code pc. tt) e.1)
  expr_layer (TypedExpr-F.New n) = expr_is (TypedExpr-F.New n.0) _ refl n.1
  expr_layer (TypedExpr-F.CallStatic c m es) = expr_is (TypedExpr-F.CallStatic c m (map (λ (e : SuchExpr). e.0) es)) _ refl (with_values es _ (closed_cons b (I.Prepare c) _ (λ code pc. tt) (closed_one b (I.CallStatic c m _) (λ code pc. tt))))
  expr_layer (TypedExpr-F.CallBuiltin w es) = expr_is (TypedExpr-F.CallBuiltin w (map (λ (e : SuchExpr). e.0) es)) _ refl (with_values es _ (closed_one b (I.Builtin w _) (λ code pc. tt)))
  expr_layer (TypedExpr-F.Debug e) = expr_is (TypedExpr-F.Debug e.0) _ refl (closed_then b (expr_code program e.0) I.Print (λ code pc. tt) e.1)
  expr_layer (TypedExpr-F.Query q bs) = expr_is (TypedExpr-F.Query q (map (λ (x : SuchBind). x.0) bs)) _ refl (query_closed q bs)

  pub expr_closed : (e : TypedExpr) → Closed b (expr_code program e)
  expr_closed =
      ind-TypedExpr (λ x. Closed b (bind_code x).1) (λ e. Closed b (expr_code program e)) (λ n. Closed b (new_is_code n)) (λ p. Closed b (part_code p)) (λ p. PlaceClosed b (place_code p)) (λ i. Closed b (item_code i)) (λ o. Closed b (operand_code o)) (λ p. Closed b (pair_code p).1)
      (λ x y is. subst (λ z. Closed b (bind_code (roll-TypedBind z)).1) is (bind_layer y))
      (λ x y is. subst (λ z. Closed b (expr_code program (roll-TypedExpr z))) is (expr_layer y))
      (λ x y is. subst (λ z. Closed b (new_is_code (roll-TypedNew z))) is (new_layer y))
      (λ x y is. subst (λ z. Closed b (part_code (roll-TypedPart z))) is (part_layer y))
      (λ x y is. subst (λ z. PlaceClosed b (place_code (roll-TypedPlace z))) is (place_layer y))
      (λ x y is. subst (λ z. Closed b (item_code (roll-TypedItem z))) is (item_layer y))
      (λ x y is. subst (λ z. Closed b (operand_code (roll-TypedOperand z))) is (operand_layer y))
      (λ x y is. subst (λ z. Closed b (pair_code (roll-TypedPair z)).1) is (pair_layer y))
