-- Every expression keeps a request in order, where its ways back in are paid for.
use Rattle.std.proofs.Common.{ℕ, suc, true, false, cond, List, [], ◌∷◌, map, sym, subst}
use Rattle.std.specs.Prelude.{slice_index_or}
use Rattle.builtin_table.specs.declared.method.Builtin.TheVariants as B
use Rattle.builtin_table.specs.declared.method.ListMethod.TheVariants as L
use Rattle.query_records.specs.Shapes.{queried}
use Rattle.static_types.specs.declared.kind.Primitive.TheVariants as Primitive
use Rattle.typed_program.specs.declared.expr.CollectionKind.TheVariants as Kinds
use Rattle.typed_program.specs.declared.expr.Conversion.{Conversion}
use Rattle.typed_program.specs.declared.expr.Conversion.TheVariants as To
use Rattle.typed_program.specs.declared.expr.TypedBind.{TypedBind}
use Rattle.typed_program.specs.declared.expr.TypedExpr.{TypedExpr}
use Rattle.typed_program.specs.declared.expr.TypedItem.{TypedItem}
use Rattle.typed_program.specs.declared.expr.TypedNew.{TypedNew}
use Rattle.typed_program.specs.declared.expr.TypedOperand.{TypedOperand}
use Rattle.typed_program.specs.declared.expr.TypedPair.{TypedPair}
use Rattle.typed_program.specs.declared.expr.TypedPart.{TypedPart}
use Rattle.typed_program.specs.declared.expr.TypedPlace.{TypedPlace}
use Rattle.typed_program.specs.declared.expr.TypedBind.TheOpen.{TypedBind-F, TypedExpr-F, TypedNew-F, TypedPart-F, TypedPlace-F, TypedItem-F, TypedOperand-F, TypedPair-F}
use Rattle.typed_program.specs.declared.expr.TypedBind.TheViews.{roll-TypedBind, roll-TypedExpr, roll-TypedNew, roll-TypedPart, roll-TypedPlace, roll-TypedItem, roll-TypedOperand, roll-TypedPair}
use Rattle.typed_program.specs.declared.expr.TypedBind.TheFolds.{fold-TypedBind, fold-TypedExpr, fold-TypedNew, fold-TypedPart, fold-TypedPlace, fold-TypedItem, fold-TypedOperand, fold-TypedPair, fold-roll-TypedBind, fold-roll-TypedExpr, fold-roll-TypedNew, fold-roll-TypedPart, fold-roll-TypedPlace, fold-roll-TypedItem, fold-roll-TypedOperand, fold-roll-TypedPair, ind-TypedExpr, map-TypedBind, map-TypedExpr, map-TypedNew, map-TypedPart, map-TypedPlace, map-TypedItem, map-TypedOperand, map-TypedPair}
use Rattle.txn_heap.specs.declared.thing.Value.{Value}
use Rattle.save_meaning.specs.Results.{bind}
use Rattle.value_operators.specs.Operators.{converted, negated}
use Rattle.request_states.specs.Expressions as Small
use Rattle.request_states.specs.Runs.{Setting, site_of}
use Rattle.request_states.specs.States.{State, Res}
use Rattle.request_states.specs.Values.{null, is_cell}
use Rattle.trigger_things.specs.Things.{place_of}
use Rattle.apex_meaning.specs.Classes.{field_place}
use Rattle.apex_meaning.specs.Exceptions.{is_declared, is_built_in}
use Rattle.apex_meaning.specs.Expressions as E
use Rattle.apex_meaning.specs.Expressions.{Where, Entry, Given, all_entries, parts_of}
use Rattle.apex_meaning.specs.Meanings.{Again, Run, Behind, all_of, calc, test}
use Rattle.apex_meaning.specs.Operations.{boolean, chained}
use Rattle.apex_meaning.specs.Places.{LocalAt, StaticAt, FieldAt, CellAt, ItemAt}
use Rattle.apex_meaning.specs.Queries.{all_bound, seen}
use Rattle.apex_meaning.specs.Records.{cell_in, children_in, only, parent_in}
use Rattle.language_laws.proofs.Paid.{Paid as From, Each, none, more, paid_gives, paid_bind, paid_calc, paid_test, paid_all_of}
use Rattle.language_laws.proofs.Classes.{Enough, paid_new}
use Rattle.language_laws.proofs.Places as Pl
use Rattle.language_laws.proofs.Queries.{paid_on_bound, paid_seen}
use Rattle.language_laws.proofs.Things as Th

module _ (setting : Setting) (again : Again) (names : List (List ℕ)) (p : ℕ) (enough : Enough setting.program again p) where
  abbrev Paid : {A : Type 0} → (State → Res A) → Type 0
  Paid f = From setting.program (suc p) f

  -- ---- what each part does

  abbrev bind_run : TypedBind → Given
  bind_run = fold-TypedBind Given Run Run Behind Where Entry Behind (ℕ × Run) (E.bind_step setting again names) (E.expr_step setting again names) (E.new_step setting again) (E.part_step setting again) (E.place_step setting again) (E.item_step setting again names) (E.operand_step setting again names) (E.pair_step setting again names)

  abbrev expr_run : TypedExpr → Run
  expr_run = fold-TypedExpr Given Run Run Behind Where Entry Behind (ℕ × Run) (E.bind_step setting again names) (E.expr_step setting again names) (E.new_step setting again) (E.part_step setting again) (E.place_step setting again) (E.item_step setting again names) (E.operand_step setting again names) (E.pair_step setting again names)

  abbrev new_run : TypedNew → Run
  new_run = fold-TypedNew Given Run Run Behind Where Entry Behind (ℕ × Run) (E.bind_step setting again names) (E.expr_step setting again names) (E.new_step setting again) (E.part_step setting again) (E.place_step setting again) (E.item_step setting again names) (E.operand_step setting again names) (E.pair_step setting again names)

  abbrev part_run : TypedPart → Behind
  part_run = fold-TypedPart Given Run Run Behind Where Entry Behind (ℕ × Run) (E.bind_step setting again names) (E.expr_step setting again names) (E.new_step setting again) (E.part_step setting again) (E.place_step setting again) (E.item_step setting again names) (E.operand_step setting again names) (E.pair_step setting again names)

  abbrev place_run : TypedPlace → Where
  place_run = fold-TypedPlace Given Run Run Behind Where Entry Behind (ℕ × Run) (E.bind_step setting again names) (E.expr_step setting again names) (E.new_step setting again) (E.part_step setting again) (E.place_step setting again) (E.item_step setting again names) (E.operand_step setting again names) (E.pair_step setting again names)

  abbrev item_run : TypedItem → Entry
  item_run = fold-TypedItem Given Run Run Behind Where Entry Behind (ℕ × Run) (E.bind_step setting again names) (E.expr_step setting again names) (E.new_step setting again) (E.part_step setting again) (E.place_step setting again) (E.item_step setting again names) (E.operand_step setting again names) (E.pair_step setting again names)

  abbrev operand_run : TypedOperand → Behind
  operand_run = fold-TypedOperand Given Run Run Behind Where Entry Behind (ℕ × Run) (E.bind_step setting again names) (E.expr_step setting again names) (E.new_step setting again) (E.part_step setting again) (E.place_step setting again) (E.item_step setting again names) (E.operand_step setting again names) (E.pair_step setting again names)

  abbrev pair_run : TypedPair → ℕ × Run
  pair_run = fold-TypedPair Given Run Run Behind Where Entry Behind (ℕ × Run) (E.bind_step setting again names) (E.expr_step setting again names) (E.new_step setting again) (E.part_step setting again) (E.place_step setting again) (E.item_step setting again names) (E.operand_step setting again names) (E.pair_step setting again names)

  -- ---- what holds of each part

  abbrev OfBind : TypedBind → Type 0
  OfBind b = Paid (bind_run b).1

  abbrev OfExpr : TypedExpr → Type 0
  OfExpr e = Paid (expr_run e)

  abbrev OfNew : TypedNew → Type 0
  OfNew x = Paid (new_run x)

  abbrev OfPart : TypedPart → Type 0
  OfPart x = (v : Value) → Paid (part_run x v)

  abbrev OfPlace : TypedPlace → Type 0
  OfPlace x = Paid (place_run x)

  abbrev OfItem : TypedItem → Type 0
  OfItem x = Paid (item_run x)

  abbrev OfOperand : TypedOperand → Type 0
  OfOperand x = (v : Value) → Paid (operand_run x v)

  abbrev OfPair : TypedPair → Type 0
  OfPair x = Paid (pair_run x).1

  abbrev SuchBind : Type 0
  SuchBind = (x : TypedBind) × OfBind x

  abbrev SuchExpr : Type 0
  SuchExpr = (x : TypedExpr) × OfExpr x

  abbrev SuchNew : Type 0
  SuchNew = (x : TypedNew) × OfNew x

  abbrev SuchPart : Type 0
  SuchPart = (x : TypedPart) × OfPart x

  abbrev SuchPlace : Type 0
  SuchPlace = (x : TypedPlace) × OfPlace x

  abbrev SuchItem : Type 0
  SuchItem = (x : TypedItem) × OfItem x

  abbrev SuchOperand : Type 0
  SuchOperand = (x : TypedOperand) × OfOperand x

  abbrev SuchPair : Type 0
  SuchPair = (x : TypedPair) × OfPair x

  -- ---- layers over such parts, and the trees that they make

  abbrev BindLayer : Type 0
  BindLayer = TypedBind-F SuchBind SuchExpr SuchNew SuchPart SuchPlace SuchItem SuchOperand SuchPair

  abbrev bind_in : BindLayer → TypedBind
  bind_in y = roll-TypedBind (map-TypedBind SuchBind SuchExpr SuchNew SuchPart SuchPlace SuchItem SuchOperand SuchPair TypedBind TypedExpr TypedNew TypedPart TypedPlace TypedItem TypedOperand TypedPair (λ x. x.0) (λ x. x.0) (λ x. x.0) (λ x. x.0) (λ x. x.0) (λ x. x.0) (λ x. x.0) (λ x. x.0) y)

  abbrev ExprLayer : Type 0
  ExprLayer = TypedExpr-F SuchBind SuchExpr SuchNew SuchPart SuchPlace SuchItem SuchOperand SuchPair

  abbrev expr_in : ExprLayer → TypedExpr
  expr_in y = roll-TypedExpr (map-TypedExpr SuchBind SuchExpr SuchNew SuchPart SuchPlace SuchItem SuchOperand SuchPair TypedBind TypedExpr TypedNew TypedPart TypedPlace TypedItem TypedOperand TypedPair (λ x. x.0) (λ x. x.0) (λ x. x.0) (λ x. x.0) (λ x. x.0) (λ x. x.0) (λ x. x.0) (λ x. x.0) y)

  abbrev NewLayer : Type 0
  NewLayer = TypedNew-F SuchBind SuchExpr SuchNew SuchPart SuchPlace SuchItem SuchOperand SuchPair

  abbrev new_in : NewLayer → TypedNew
  new_in y = roll-TypedNew (map-TypedNew SuchBind SuchExpr SuchNew SuchPart SuchPlace SuchItem SuchOperand SuchPair TypedBind TypedExpr TypedNew TypedPart TypedPlace TypedItem TypedOperand TypedPair (λ x. x.0) (λ x. x.0) (λ x. x.0) (λ x. x.0) (λ x. x.0) (λ x. x.0) (λ x. x.0) (λ x. x.0) y)

  abbrev PartLayer : Type 0
  PartLayer = TypedPart-F SuchBind SuchExpr SuchNew SuchPart SuchPlace SuchItem SuchOperand SuchPair

  abbrev part_in : PartLayer → TypedPart
  part_in y = roll-TypedPart (map-TypedPart SuchBind SuchExpr SuchNew SuchPart SuchPlace SuchItem SuchOperand SuchPair TypedBind TypedExpr TypedNew TypedPart TypedPlace TypedItem TypedOperand TypedPair (λ x. x.0) (λ x. x.0) (λ x. x.0) (λ x. x.0) (λ x. x.0) (λ x. x.0) (λ x. x.0) (λ x. x.0) y)

  abbrev PlaceLayer : Type 0
  PlaceLayer = TypedPlace-F SuchBind SuchExpr SuchNew SuchPart SuchPlace SuchItem SuchOperand SuchPair

  abbrev place_in : PlaceLayer → TypedPlace
  place_in y = roll-TypedPlace (map-TypedPlace SuchBind SuchExpr SuchNew SuchPart SuchPlace SuchItem SuchOperand SuchPair TypedBind TypedExpr TypedNew TypedPart TypedPlace TypedItem TypedOperand TypedPair (λ x. x.0) (λ x. x.0) (λ x. x.0) (λ x. x.0) (λ x. x.0) (λ x. x.0) (λ x. x.0) (λ x. x.0) y)

  abbrev ItemLayer : Type 0
  ItemLayer = TypedItem-F SuchBind SuchExpr SuchNew SuchPart SuchPlace SuchItem SuchOperand SuchPair

  abbrev item_in : ItemLayer → TypedItem
  item_in y = roll-TypedItem (map-TypedItem SuchBind SuchExpr SuchNew SuchPart SuchPlace SuchItem SuchOperand SuchPair TypedBind TypedExpr TypedNew TypedPart TypedPlace TypedItem TypedOperand TypedPair (λ x. x.0) (λ x. x.0) (λ x. x.0) (λ x. x.0) (λ x. x.0) (λ x. x.0) (λ x. x.0) (λ x. x.0) y)

  abbrev OperandLayer : Type 0
  OperandLayer = TypedOperand-F SuchBind SuchExpr SuchNew SuchPart SuchPlace SuchItem SuchOperand SuchPair

  abbrev operand_in : OperandLayer → TypedOperand
  operand_in y = roll-TypedOperand (map-TypedOperand SuchBind SuchExpr SuchNew SuchPart SuchPlace SuchItem SuchOperand SuchPair TypedBind TypedExpr TypedNew TypedPart TypedPlace TypedItem TypedOperand TypedPair (λ x. x.0) (λ x. x.0) (λ x. x.0) (λ x. x.0) (λ x. x.0) (λ x. x.0) (λ x. x.0) (λ x. x.0) y)

  abbrev PairLayer : Type 0
  PairLayer = TypedPair-F SuchBind SuchExpr SuchNew SuchPart SuchPlace SuchItem SuchOperand SuchPair

  abbrev pair_in : PairLayer → TypedPair
  pair_in y = roll-TypedPair (map-TypedPair SuchBind SuchExpr SuchNew SuchPart SuchPlace SuchItem SuchOperand SuchPair TypedBind TypedExpr TypedNew TypedPart TypedPlace TypedItem TypedOperand TypedPair (λ x. x.0) (λ x. x.0) (λ x. x.0) (λ x. x.0) (λ x. x.0) (λ x. x.0) (λ x. x.0) (λ x. x.0) y)

  -- ---- what a tree does is what its form does with its parts

  bind_does : (z : TypedBind-F TypedBind TypedExpr TypedNew TypedPart TypedPlace TypedItem TypedOperand TypedPair) → Paid (E.bind_step setting again names (map-TypedBind TypedBind TypedExpr TypedNew TypedPart TypedPlace TypedItem TypedOperand TypedPair Given Run Run Behind Where Entry Behind (ℕ × Run) bind_run expr_run new_run part_run place_run item_run operand_run pair_run z)).1 → Paid (bind_run (roll-TypedBind z)).1
  bind_does z h = subst (λ (f : Given). Paid f.1) (sym (fold-roll-TypedBind Given Run Run Behind Where Entry Behind (ℕ × Run) (E.bind_step setting again names) (E.expr_step setting again names) (E.new_step setting again) (E.part_step setting again) (E.place_step setting again) (E.item_step setting again names) (E.operand_step setting again names) (E.pair_step setting again names) z)) h

  expr_does : (z : TypedExpr-F TypedBind TypedExpr TypedNew TypedPart TypedPlace TypedItem TypedOperand TypedPair) → Paid (E.expr_step setting again names (map-TypedExpr TypedBind TypedExpr TypedNew TypedPart TypedPlace TypedItem TypedOperand TypedPair Given Run Run Behind Where Entry Behind (ℕ × Run) bind_run expr_run new_run part_run place_run item_run operand_run pair_run z)) → Paid (expr_run (roll-TypedExpr z))
  expr_does z h = subst (λ f. Paid f) (sym (fold-roll-TypedExpr Given Run Run Behind Where Entry Behind (ℕ × Run) (E.bind_step setting again names) (E.expr_step setting again names) (E.new_step setting again) (E.part_step setting again) (E.place_step setting again) (E.item_step setting again names) (E.operand_step setting again names) (E.pair_step setting again names) z)) h

  new_does : (z : TypedNew-F TypedBind TypedExpr TypedNew TypedPart TypedPlace TypedItem TypedOperand TypedPair) → Paid (E.new_step setting again (map-TypedNew TypedBind TypedExpr TypedNew TypedPart TypedPlace TypedItem TypedOperand TypedPair Given Run Run Behind Where Entry Behind (ℕ × Run) bind_run expr_run new_run part_run place_run item_run operand_run pair_run z)) → Paid (new_run (roll-TypedNew z))
  new_does z h = subst (λ f. Paid f) (sym (fold-roll-TypedNew Given Run Run Behind Where Entry Behind (ℕ × Run) (E.bind_step setting again names) (E.expr_step setting again names) (E.new_step setting again) (E.part_step setting again) (E.place_step setting again) (E.item_step setting again names) (E.operand_step setting again names) (E.pair_step setting again names) z)) h

  part_does : (z : TypedPart-F TypedBind TypedExpr TypedNew TypedPart TypedPlace TypedItem TypedOperand TypedPair) (v : Value) → Paid (E.part_step setting again (map-TypedPart TypedBind TypedExpr TypedNew TypedPart TypedPlace TypedItem TypedOperand TypedPair Given Run Run Behind Where Entry Behind (ℕ × Run) bind_run expr_run new_run part_run place_run item_run operand_run pair_run z) v) → Paid (part_run (roll-TypedPart z) v)
  part_does z v h = subst (λ f. Paid (f v)) (sym (fold-roll-TypedPart Given Run Run Behind Where Entry Behind (ℕ × Run) (E.bind_step setting again names) (E.expr_step setting again names) (E.new_step setting again) (E.part_step setting again) (E.place_step setting again) (E.item_step setting again names) (E.operand_step setting again names) (E.pair_step setting again names) z)) h

  place_does : (z : TypedPlace-F TypedBind TypedExpr TypedNew TypedPart TypedPlace TypedItem TypedOperand TypedPair) → Paid (E.place_step setting again (map-TypedPlace TypedBind TypedExpr TypedNew TypedPart TypedPlace TypedItem TypedOperand TypedPair Given Run Run Behind Where Entry Behind (ℕ × Run) bind_run expr_run new_run part_run place_run item_run operand_run pair_run z)) → Paid (place_run (roll-TypedPlace z))
  place_does z h = subst (λ f. Paid f) (sym (fold-roll-TypedPlace Given Run Run Behind Where Entry Behind (ℕ × Run) (E.bind_step setting again names) (E.expr_step setting again names) (E.new_step setting again) (E.part_step setting again) (E.place_step setting again) (E.item_step setting again names) (E.operand_step setting again names) (E.pair_step setting again names) z)) h

  item_does : (z : TypedItem-F TypedBind TypedExpr TypedNew TypedPart TypedPlace TypedItem TypedOperand TypedPair) → Paid (E.item_step setting again names (map-TypedItem TypedBind TypedExpr TypedNew TypedPart TypedPlace TypedItem TypedOperand TypedPair Given Run Run Behind Where Entry Behind (ℕ × Run) bind_run expr_run new_run part_run place_run item_run operand_run pair_run z)) → Paid (item_run (roll-TypedItem z))
  item_does z h = subst (λ f. Paid f) (sym (fold-roll-TypedItem Given Run Run Behind Where Entry Behind (ℕ × Run) (E.bind_step setting again names) (E.expr_step setting again names) (E.new_step setting again) (E.part_step setting again) (E.place_step setting again) (E.item_step setting again names) (E.operand_step setting again names) (E.pair_step setting again names) z)) h

  operand_does : (z : TypedOperand-F TypedBind TypedExpr TypedNew TypedPart TypedPlace TypedItem TypedOperand TypedPair) (v : Value) → Paid (E.operand_step setting again names (map-TypedOperand TypedBind TypedExpr TypedNew TypedPart TypedPlace TypedItem TypedOperand TypedPair Given Run Run Behind Where Entry Behind (ℕ × Run) bind_run expr_run new_run part_run place_run item_run operand_run pair_run z) v) → Paid (operand_run (roll-TypedOperand z) v)
  operand_does z v h = subst (λ f. Paid (f v)) (sym (fold-roll-TypedOperand Given Run Run Behind Where Entry Behind (ℕ × Run) (E.bind_step setting again names) (E.expr_step setting again names) (E.new_step setting again) (E.part_step setting again) (E.place_step setting again) (E.item_step setting again names) (E.operand_step setting again names) (E.pair_step setting again names) z)) h

  pair_does : (z : TypedPair-F TypedBind TypedExpr TypedNew TypedPart TypedPlace TypedItem TypedOperand TypedPair) → Paid (E.pair_step setting again names (map-TypedPair TypedBind TypedExpr TypedNew TypedPart TypedPlace TypedItem TypedOperand TypedPair Given Run Run Behind Where Entry Behind (ℕ × Run) bind_run expr_run new_run part_run place_run item_run operand_run pair_run z)).1 → Paid (pair_run (roll-TypedPair z)).1
  pair_does z h = subst (λ (f : ℕ × Run). Paid f.1) (sym (fold-roll-TypedPair Given Run Run Behind Where Entry Behind (ℕ × Run) (E.bind_step setting again names) (E.expr_step setting again names) (E.new_step setting again) (E.part_step setting again) (E.place_step setting again) (E.item_step setting again names) (E.operand_step setting again names) (E.pair_step setting again names) z)) h

  -- ---- lists of parts

  each_value : (es : List SuchExpr) → Each setting.program (suc p) (map expr_run (map (λ e. e.0) es))
  each_value [] = none
  each_value (e ∷ es) = more e.1 (each_value es)

  values : (es : List SuchExpr) → Paid (all_of (map expr_run (map (λ e. e.0) es)))
  values es = paid_all_of setting.program (suc p) _ (each_value es)

  each_bind : (bs : List SuchBind) → Each setting.program (suc p) (map (λ (g : Given). g.1) (map bind_run (map (λ b. b.0) bs)))
  each_bind [] = none
  each_bind (b ∷ bs) = more b.1 (each_bind bs)

  binds : (bs : List SuchBind) → Paid (all_of (map (λ (g : Given). g.1) (map bind_run (map (λ b. b.0) bs))))
  binds bs = paid_all_of setting.program (suc p) _ (each_bind bs)

  chain : (os : List SuchOperand) (v : Value) → Paid (chained (map operand_run (map (λ o. o.0) os)) v)
  chain [] v = paid_gives setting.program (suc p) (λ s. v)
  chain (o ∷ os) v = paid_bind setting.program (suc p) (operand_run o.0 v) (chained (map operand_run (map (λ o. o.0) os))) (o.1 v) (chain os)

  path : (ps : List SuchPart) (v : Value) → Paid (parts_of (map part_run (map (λ x. x.0) ps)) v)
  path [] v = paid_gives setting.program (suc p) (λ s. v)
  path (x ∷ ps) v = paid_bind setting.program (suc p) (part_run x.0 v) (parts_of (map part_run (map (λ x. x.0) ps))) (x.1 v) (path ps)

  entries : (is : List SuchItem) → Paid (all_entries (map item_run (map (λ i. i.0) is)))
  entries [] = paid_gives setting.program (suc p) (λ s. [])
  entries (i ∷ is) =
      paid_bind setting.program (suc p) (item_run i.0) _ i.1
      (λ e. paid_bind setting.program (suc p) (all_entries (map item_run (map (λ i. i.0) is))) _ (entries is) (λ es. paid_gives setting.program (suc p) (λ s. e ∷ es)))

  pairs : (ps : List SuchPair) → Paid (Small.all_pairs (map pair_run (map (λ x. x.0) ps)))
  pairs [] = paid_gives setting.program (suc p) (λ s. [])
  pairs (x ∷ ps) =
      paid_bind setting.program (suc p) (pair_run x.0).1 _ x.1
      (λ v. paid_bind setting.program (suc p) (Small.all_pairs (map pair_run (map (λ x. x.0) ps))) _ (pairs ps) (λ vs. paid_gives setting.program (suc p) (λ s. ((pair_run x.0).0, v) ∷ vs)))

  -- ---- the forms

  converts : (c : Conversion) (x : SuchExpr) → Paid (λ st. bind (expr_run x.0 st) (λ v s. calc (converted c v) s))
  converts c x = paid_bind setting.program (suc p) (expr_run x.0) _ x.1 (λ v. paid_calc setting.program (suc p) (converted c v))

  expr_layer : (y : ExprLayer) → Paid (expr_run (expr_in y))
  expr_layer (TypedExpr-F.Constant k) = expr_does (TypedExpr-F.Constant k) (Pl.paid_constant setting.program (suc p) (is_cell k) k)
  expr_layer (TypedExpr-F.«TypedExpr::Local» x) = expr_does (TypedExpr-F.«TypedExpr::Local» x) (paid_gives setting.program (suc p) (λ s. slice_index_or s.here.locals x null))
  expr_layer (TypedExpr-F.«TypedExpr::Static» c m) = expr_does (TypedExpr-F.«TypedExpr::Static» c m) (Pl.paid_got setting again p enough (StaticAt c m))
  expr_layer TypedExpr-F.This = expr_does TypedExpr-F.This (paid_gives setting.program (suc p) (λ s. s.here.this))
  expr_layer (TypedExpr-F.TriggerVariable v) = expr_does (TypedExpr-F.TriggerVariable v) (record { at = λ st s lt. (Pl.paid_field_in setting.program (suc p) (place_of v) st.here.this).at st s lt })
  expr_layer (TypedExpr-F.Postfix x ps) = expr_does (TypedExpr-F.Postfix x.0 (map (λ x. x.0) ps)) (paid_bind setting.program (suc p) (expr_run x.0) (parts_of (map part_run (map (λ x. x.0) ps))) x.1 (path ps))
  expr_layer (TypedExpr-F.Chain x os) = expr_does (TypedExpr-F.Chain x.0 (map (λ x. x.0) os)) (paid_bind setting.program (suc p) (expr_run x.0) (chained (map operand_run (map (λ x. x.0) os))) x.1 (chain os))
  expr_layer (TypedExpr-F.Convert To.Same x) = expr_does (TypedExpr-F.Convert To.Same x.0) (converts To.Same x)
  expr_layer (TypedExpr-F.Convert To.ToLong x) = expr_does (TypedExpr-F.Convert To.ToLong x.0) (converts To.ToLong x)
  expr_layer (TypedExpr-F.Convert To.ToDecimal x) = expr_does (TypedExpr-F.Convert To.ToDecimal x.0) (converts To.ToDecimal x)
  expr_layer (TypedExpr-F.Convert To.ToId x) = expr_does (TypedExpr-F.Convert To.ToId x.0) (converts To.ToId x)
  expr_layer (TypedExpr-F.Convert To.ToText x) = expr_does (TypedExpr-F.Convert To.ToText x.0) (converts To.ToText x)
  expr_layer (TypedExpr-F.Convert To.ToRecord x) = expr_does (TypedExpr-F.Convert To.ToRecord x.0) (paid_bind setting.program (suc p) (expr_run x.0) _ x.1 (λ v. Pl.paid_seen setting.program (suc p) (only v)))
  expr_layer (TypedExpr-F.Not x) =
      expr_does (TypedExpr-F.Not x.0) (paid_bind setting.program (suc p) (test (expr_run x.0)) _ (paid_test setting.program (suc p) (expr_run x.0) x.1) (λ b. paid_gives setting.program (suc p) (λ s. boolean (cond b false true))))
  expr_layer (TypedExpr-F.Minus m x) = expr_does (TypedExpr-F.Minus m x.0) (paid_bind setting.program (suc p) (expr_run x.0) _ x.1 (λ v. paid_calc setting.program (suc p) (negated m v)))
  expr_layer (TypedExpr-F.Conditional c a b) =
      expr_does (TypedExpr-F.Conditional c.0 a.0 b.0)
      (paid_bind setting.program (suc p) (test (expr_run c.0)) (E.chosen setting again (expr_run a.0) (expr_run b.0)) (paid_test setting.program (suc p) (expr_run c.0) c.1) (λ x. Pl.paid_chosen setting again p enough (expr_run a.0) (expr_run b.0) x a.1 b.1))
  expr_layer (TypedExpr-F.Assign t x) = expr_does (TypedExpr-F.Assign t.0 x.0) (paid_bind setting.program (suc p) (place_run t.0) _ t.1 (λ at. Pl.paid_assigned setting again p enough (expr_run x.0) at x.1))
  expr_layer (TypedExpr-F.AssignWith t how x) = expr_does (TypedExpr-F.AssignWith t.0 how x.0) (paid_bind setting.program (suc p) (place_run t.0) _ t.1 (λ at. Pl.paid_assigned_with setting again p enough how (expr_run x.0) at x.1))
  expr_layer (TypedExpr-F.Step kind m t) = expr_does (TypedExpr-F.Step kind m t.0) (paid_bind setting.program (suc p) (place_run t.0) _ t.1 (λ at. Pl.paid_changed setting again p enough kind m at))
  expr_layer (TypedExpr-F.Cast c x) = expr_does (TypedExpr-F.Cast c x.0) (paid_bind setting.program (suc p) (expr_run x.0) _ x.1 (λ v. Pl.paid_cast setting.program (suc p) (is_declared setting.program c) v))
  expr_layer (TypedExpr-F.CastException c x) = expr_does (TypedExpr-F.CastException c x.0) (paid_bind setting.program (suc p) (expr_run x.0) _ x.1 (λ v. Pl.paid_cast setting.program (suc p) (is_built_in c) v))
  expr_layer (TypedExpr-F.New x) = expr_does (TypedExpr-F.New x.0) x.1
  expr_layer (TypedExpr-F.CallStatic c m es) = expr_does (TypedExpr-F.CallStatic c m (map (λ x. x.0) es)) (paid_bind setting.program (suc p) (all_of (map expr_run (map (λ x. x.0) es))) _ (values es) (λ vs. Pl.paid_call_static setting again p enough c m vs))
  expr_layer (TypedExpr-F.CallBuiltin which es) =
      expr_does (TypedExpr-F.CallBuiltin which (map (λ x. x.0) es)) (paid_bind setting.program (suc p) (all_of (map expr_run (map (λ x. x.0) es))) _ (values es) (λ vs. Th.paid_builtin setting.program (suc p) setting.ticket which vs))
  expr_layer (TypedExpr-F.Debug x) = expr_does (TypedExpr-F.Debug x.0) (paid_bind setting.program (suc p) (expr_run x.0) _ x.1 (λ v. Pl.paid_say setting again p enough names v))
  expr_layer (TypedExpr-F.Query q bs) =
      expr_does (TypedExpr-F.Query q (map (λ x. x.0) bs))
      (paid_bind setting.program (suc p) (all_of (map (λ (g : Given). g.1) (map bind_run (map (λ x. x.0) bs)))) _ (binds bs)
      (λ vs. record { at = λ st s lt. (paid_on_bound setting.program (site_of setting) (suc p) (queried q) (all_bound (map (λ (g : Given). g.0) (map bind_run (map (λ x. x.0) bs))) vs st.world.heap)).at st s lt }))

  bind_layer : (y : BindLayer) → Paid (bind_run (bind_in y)).1
  bind_layer (TypedBind-F.One x) = bind_does (TypedBind-F.One x.0) x.1
  bind_layer (TypedBind-F.Many how x) = bind_does (TypedBind-F.Many how x.0) (paid_bind setting.program (suc p) (expr_run x.0) seen x.1 (paid_seen setting.program (suc p)))

  new_layer : (y : NewLayer) → Paid (new_run (new_in y))
  new_layer (TypedNew-F.Instance c k es) = new_does (TypedNew-F.Instance c k (map (λ x. x.0) es)) (paid_bind setting.program (suc p) (all_of (map expr_run (map (λ x. x.0) es))) _ (values es) (λ vs. paid_new setting.program again p enough c k vs))
  new_layer (TypedNew-F.Exception c es) = new_does (TypedNew-F.Exception c (map (λ x. x.0) es)) (paid_bind setting.program (suc p) (all_of (map expr_run (map (λ x. x.0) es))) _ (values es) (λ vs. Th.paid_exception setting.program (suc p) c vs))
  new_layer (TypedNew-F.Record object ps) = new_does (TypedNew-F.Record object (map (λ x. x.0) ps)) (paid_bind setting.program (suc p) (Small.all_pairs (map pair_run (map (λ x. x.0) ps))) _ (pairs ps) (λ vs. Th.paid_record setting.program (suc p) (site_of setting) object vs))
  new_layer (TypedNew-F.Collection kind es) = new_does (TypedNew-F.Collection kind (map (λ x. x.0) es)) (paid_bind setting.program (suc p) (all_of (map expr_run (map (λ x. x.0) es))) _ (values es) (λ vs. Th.paid_filled setting.program (suc p) kind vs))
  new_layer (TypedNew-F.Map key is) = new_does (TypedNew-F.Map key (map (λ x. x.0) is)) (paid_bind setting.program (suc p) (all_entries (map item_run (map (λ x. x.0) is))) _ (entries is) (λ es. Th.paid_map setting.program (suc p) es))
  new_layer (TypedNew-F.Copy kind x) = new_does (TypedNew-F.Copy kind x.0) (paid_bind setting.program (suc p) (expr_run x.0) _ x.1 (λ v. Th.paid_copy setting.program (suc p) kind v))
  new_layer (TypedNew-F.ById x) = new_does (TypedNew-F.ById x.0) (paid_bind setting.program (suc p) (expr_run x.0) _ x.1 (λ v. Th.paid_copy setting.program (suc p) (Kinds.Map Primitive.Id) v))

  part_layer : (y : PartLayer) (v : Value) → Paid (part_run (part_in y) v)
  part_layer (TypedPart-F.«TypedPart::Field» c m) v = part_does (TypedPart-F.«TypedPart::Field» c m) v (Pl.paid_field_in setting.program (suc p) (field_place setting.program c m) v)
  part_layer (TypedPart-F.«TypedPart::Index» x) v = part_does (TypedPart-F.«TypedPart::Index» x.0) v (paid_bind setting.program (suc p) (expr_run x.0) _ x.1 (λ i. Th.paid_on_collection setting.program (suc p) (B.List L.Get) v (i ∷ [])))
  part_layer (TypedPart-F.Call c m virtual es) v = part_does (TypedPart-F.Call c m virtual (map (λ x. x.0) es)) v (paid_bind setting.program (suc p) (all_of (map expr_run (map (λ x. x.0) es))) _ (values es) (λ vs. Pl.paid_call_on setting again p enough c m virtual vs v))
  part_layer (TypedPart-F.Builtin which es) v =
      part_does (TypedPart-F.Builtin which (map (λ x. x.0) es)) v (paid_bind setting.program (suc p) (all_of (map expr_run (map (λ x. x.0) es))) _ (values es) (λ vs. Th.paid_builtin setting.program (suc p) setting.ticket which (v ∷ vs)))
  part_layer (TypedPart-F.«TypedPart::Cell» a b c) v = part_does (TypedPart-F.«TypedPart::Cell» a b c) v (Pl.paid_seen setting.program (suc p) (cell_in setting.schema b c v))
  part_layer (TypedPart-F.Parent a b c) v = part_does (TypedPart-F.Parent a b c) v (Pl.paid_seen setting.program (suc p) (parent_in setting.schema b c v))
  part_layer (TypedPart-F.Children a b c) v = part_does (TypedPart-F.Children a b c) v (Pl.paid_seen setting.program (suc p) (children_in setting.schema a b c v))

  place_layer : (y : PlaceLayer) → Paid (place_run (place_in y))
  place_layer (TypedPlace-F.«TypedPlace::Local» x) = place_does (TypedPlace-F.«TypedPlace::Local» x) (paid_gives setting.program (suc p) (λ s. LocalAt x))
  place_layer (TypedPlace-F.«TypedPlace::Static» c m) = place_does (TypedPlace-F.«TypedPlace::Static» c m) (paid_gives setting.program (suc p) (λ s. StaticAt c m))
  place_layer (TypedPlace-F.«TypedPlace::Field» x c m) = place_does (TypedPlace-F.«TypedPlace::Field» x.0 c m) (paid_bind setting.program (suc p) (expr_run x.0) _ x.1 (λ v. paid_gives setting.program (suc p) (λ s. FieldAt v c m)))
  place_layer (TypedPlace-F.«TypedPlace::Cell» x o m g) = place_does (TypedPlace-F.«TypedPlace::Cell» x.0 o m g) (paid_bind setting.program (suc p) (expr_run x.0) _ x.1 (λ v. paid_gives setting.program (suc p) (λ s. CellAt v o m g)))
  place_layer (TypedPlace-F.«TypedPlace::Index» x i) =
      place_does (TypedPlace-F.«TypedPlace::Index» x.0 i.0) (paid_bind setting.program (suc p) (expr_run x.0) _ x.1 (λ v. paid_bind setting.program (suc p) (expr_run i.0) _ i.1 (λ w. paid_gives setting.program (suc p) (λ s. ItemAt v w))))

  item_layer : (y : ItemLayer) → Paid (item_run (item_in y))
  item_layer y = item_does (record { key = y.key.0; value = y.value.0 }) (paid_bind setting.program (suc p) (expr_run y.key.0) _ y.key.1 (λ k. paid_bind setting.program (suc p) (expr_run y.value.0) _ y.value.1 (λ v. paid_gives setting.program (suc p) (λ s. (k, v)))))

  operand_layer : (y : OperandLayer) (v : Value) → Paid (operand_run (operand_in y) v)
  operand_layer y v = operand_does (record { left = y.left; op = y.op; right = y.right; value = y.value.0 }) v (Th.paid_operated setting.program (suc p) y.left y.op y.right (expr_run y.value.0) v y.value.1)

  pair_layer : (y : PairLayer) → Paid (pair_run (pair_in y)).1
  pair_layer y = pair_does (record { field = y.field; value = y.value.0 }) y.value.1

  pub paid_expr : (e : TypedExpr) → Paid (E.value_of setting again names e)
  paid_expr =
      ind-TypedExpr OfBind OfExpr OfNew OfPart OfPlace OfItem OfOperand OfPair
      (λ x y is. subst (λ z. OfBind (roll-TypedBind z)) is (bind_layer y))
      (λ x y is. subst (λ z. OfExpr (roll-TypedExpr z)) is (expr_layer y))
      (λ x y is. subst (λ z. OfNew (roll-TypedNew z)) is (new_layer y))
      (λ x y is. subst (λ z. OfPart (roll-TypedPart z)) is (part_layer y))
      (λ x y is. subst (λ z. OfPlace (roll-TypedPlace z)) is (place_layer y))
      (λ x y is. subst (λ z. OfItem (roll-TypedItem z)) is (item_layer y))
      (λ x y is. subst (λ z. OfOperand (roll-TypedOperand z)) is (operand_layer y))
      (λ x y is. subst (λ z. OfPair (roll-TypedPair z)) is (pair_layer y))
