-- The code of every expression does what the expression means.
use Rattle.std.proofs.Common.{◌≡◌, ℕ, suc, List, [], ◌∷◌, ◌++◌, length, map, refl, sym, ap, ◌∙◌, subst}
use Rattle.request_states.specs.Runs.{Setting, site_of}
use Rattle.request_states.specs.States.{State}
use Rattle.request_states.specs.Values.{is_cell}
use Rattle.builtin_table.specs.declared.method.Builtin.TheVariants as Which
use Rattle.builtin_table.specs.declared.method.ListMethod.TheVariants as L
use Rattle.apex_meaning.specs.Builtins.{called_builtin}
use Rattle.apex_meaning.specs.Classes.{field_place}
use Rattle.apex_meaning.specs.Collections.{on_collection, make_filled, make_copy, make_exception}
use Rattle.apex_meaning.specs.Exceptions.{is_declared, is_built_in}
use Rattle.apex_meaning.specs.Expressions as E
use Rattle.apex_meaning.specs.Expressions.{Where, Entry, all_entries, cast_to, chosen, parts_of, say}
use Rattle.apex_meaning.specs.Meanings.{Again, Run, Behind, all_of, calc, test, truth_of}
use Rattle.apex_meaning.specs.Operations.{operated, chained}
use Rattle.apex_meaning.specs.Places.{FieldAt, CellAt, ItemAt, field_in}
use Rattle.apex_meaning.specs.Preparing.{new_instance}
use Rattle.apex_meaning.specs.Queries.{seen}
use Rattle.apex_meaning.specs.Records.{only}
use Rattle.query_records.specs.Shapes.{queried}
use Rattle.query_records.specs.declared.bind.BindKind.{BindKind}
use Rattle.query_records.specs.declared.bind.BindKind.TheVariants.{One, Many}
use Rattle.save_meaning.proofs.Holding.{bind_bind, bound, weaken}
use Rattle.save_meaning.specs.Results.{Gives, bind}
use Rattle.static_types.specs.declared.kind.Primitive.TheVariants as Primitive
use Rattle.tenant_trails.specs.Runs as Trail
use Rattle.trigger_things.specs.Things.{place_of}
use Rattle.txn_heap.specs.declared.thing.Value.{Value}
use Rattle.typed_program.specs.declared.expr.CollectionKind.TheVariants as Kinds
use Rattle.typed_program.specs.declared.expr.Conversion.{Conversion}
use Rattle.typed_program.specs.declared.expr.Conversion.TheVariants as Conv
use Rattle.value_operators.specs.Operators.{converted, negated}
use Rattle.typed_program.specs.declared.expr.TypedBind.{TypedBind}
use Rattle.typed_program.specs.declared.expr.TypedExpr.{TypedExpr}
use Rattle.typed_program.specs.declared.expr.TypedNew.{TypedNew}
use Rattle.typed_program.specs.declared.expr.TypedPart.{TypedPart}
use Rattle.typed_program.specs.declared.expr.TypedPlace.{TypedPlace}
use Rattle.typed_program.specs.declared.expr.TypedItem.{TypedItem}
use Rattle.typed_program.specs.declared.expr.TypedOperand.{TypedOperand}
use Rattle.typed_program.specs.declared.expr.TypedPair.{TypedPair}
use Rattle.typed_program.specs.declared.expr.TypedBind.TheOpen.{TypedBind-F, TypedExpr-F, TypedNew-F, TypedPart-F, TypedPlace-F, TypedItem-F, TypedOperand-F, TypedPair-F}
use Rattle.typed_program.specs.declared.expr.TypedBind.TheViews.{roll-TypedBind, roll-TypedExpr, roll-TypedNew, roll-TypedPart, roll-TypedPlace, roll-TypedItem, roll-TypedOperand, roll-TypedPair}
use Rattle.typed_program.specs.declared.expr.TypedBind.TheFolds.{fold-TypedBind, fold-TypedExpr, fold-TypedNew, fold-TypedPart, fold-TypedPlace, fold-TypedItem, fold-TypedOperand, fold-TypedPair, fold-roll-TypedBind, fold-roll-TypedExpr, fold-roll-TypedNew, fold-roll-TypedPart, fold-roll-TypedPlace, fold-roll-TypedItem, fold-roll-TypedOperand, fold-roll-TypedPair, map-TypedBind, map-TypedExpr, map-TypedNew, map-TypedPart, map-TypedPlace, map-TypedItem, map-TypedOperand, map-TypedPair, ind-TypedExpr}
use Rattle.stack_code.specs.Code as Code
use Rattle.stack_code.specs.Code.{Instrs, PlaceCode, joined}
use Rattle.stack_code.specs.declared.code.Instr.TheVariants as I
use Rattle.stack_code.specs.declared.code.Slot.TheVariants as S
use Rattle.stack_code.specs.declared.image.Image.{Image}
use Rattle.program_simulation.proofs.Classes.{IsImage}
use Rattle.program_simulation.proofs.Frames as F
use Rattle.program_simulation.proofs.OfCalls
use Rattle.program_simulation.proofs.OfLists
use Rattle.program_simulation.proofs.OfPlaces
use Rattle.program_simulation.proofs.OfQueries
use Rattle.program_simulation.proofs.OfThings
use Rattle.program_simulation.proofs.OfValues
use Rattle.program_simulation.proofs.Simulates as Sim
use Rattle.program_simulation.proofs.Simulates.{Around}

module _ (setting : Setting) (image : Image) (r : Trail.Run) (is : IsImage setting.program image) (again : Again) (follows : F.Follows (site_of setting) image r again) (names : List (List ℕ)) (named : image.names ≡ names) where
  abbrev Puts : Run → Instrs → Type 0
  Puts f code = Sim.Puts (site_of setting) image r f code

  abbrev Takes : Behind → Instrs → Type 0
  Takes g code = Sim.Takes (site_of setting) image r g code

  abbrev Places : Where → PlaceCode → Type 0
  Places f p = OfPlaces.Places setting image r f p

  -- ---- what each part does, and its code

  abbrev run_bind : TypedBind → E.Given
  run_bind = fold-TypedBind E.Given Run Run Behind Where Entry Behind (ℕ × Run) (E.bind_step setting again names) (E.expr_step setting again names) (E.new_step setting again) (E.part_step setting again) (E.place_step setting again) (E.item_step setting again names) (E.operand_step setting again names) (E.pair_step setting again names)

  abbrev code_bind : TypedBind → Code.Given
  code_bind = fold-TypedBind Code.Given Instrs Instrs Instrs PlaceCode Instrs Instrs (ℕ × Instrs) Code.bind_step Code.expr_step Code.new_step (Code.part_step setting.program) (Code.place_step setting.program) Code.item_step Code.operand_step Code.pair_step

  abbrev run_expr : TypedExpr → Run
  run_expr = fold-TypedExpr E.Given Run Run Behind Where Entry Behind (ℕ × Run) (E.bind_step setting again names) (E.expr_step setting again names) (E.new_step setting again) (E.part_step setting again) (E.place_step setting again) (E.item_step setting again names) (E.operand_step setting again names) (E.pair_step setting again names)

  abbrev code_expr : TypedExpr → Instrs
  code_expr = fold-TypedExpr Code.Given Instrs Instrs Instrs PlaceCode Instrs Instrs (ℕ × Instrs) Code.bind_step Code.expr_step Code.new_step (Code.part_step setting.program) (Code.place_step setting.program) Code.item_step Code.operand_step Code.pair_step

  abbrev run_new : TypedNew → Run
  run_new = fold-TypedNew E.Given Run Run Behind Where Entry Behind (ℕ × Run) (E.bind_step setting again names) (E.expr_step setting again names) (E.new_step setting again) (E.part_step setting again) (E.place_step setting again) (E.item_step setting again names) (E.operand_step setting again names) (E.pair_step setting again names)

  abbrev code_new : TypedNew → Instrs
  code_new = fold-TypedNew Code.Given Instrs Instrs Instrs PlaceCode Instrs Instrs (ℕ × Instrs) Code.bind_step Code.expr_step Code.new_step (Code.part_step setting.program) (Code.place_step setting.program) Code.item_step Code.operand_step Code.pair_step

  abbrev run_part : TypedPart → Behind
  run_part = fold-TypedPart E.Given Run Run Behind Where Entry Behind (ℕ × Run) (E.bind_step setting again names) (E.expr_step setting again names) (E.new_step setting again) (E.part_step setting again) (E.place_step setting again) (E.item_step setting again names) (E.operand_step setting again names) (E.pair_step setting again names)

  abbrev code_part : TypedPart → Instrs
  code_part = fold-TypedPart Code.Given Instrs Instrs Instrs PlaceCode Instrs Instrs (ℕ × Instrs) Code.bind_step Code.expr_step Code.new_step (Code.part_step setting.program) (Code.place_step setting.program) Code.item_step Code.operand_step Code.pair_step

  abbrev run_place : TypedPlace → Where
  run_place = fold-TypedPlace E.Given Run Run Behind Where Entry Behind (ℕ × Run) (E.bind_step setting again names) (E.expr_step setting again names) (E.new_step setting again) (E.part_step setting again) (E.place_step setting again) (E.item_step setting again names) (E.operand_step setting again names) (E.pair_step setting again names)

  abbrev code_place : TypedPlace → PlaceCode
  code_place = fold-TypedPlace Code.Given Instrs Instrs Instrs PlaceCode Instrs Instrs (ℕ × Instrs) Code.bind_step Code.expr_step Code.new_step (Code.part_step setting.program) (Code.place_step setting.program) Code.item_step Code.operand_step Code.pair_step

  abbrev run_item : TypedItem → Entry
  run_item = fold-TypedItem E.Given Run Run Behind Where Entry Behind (ℕ × Run) (E.bind_step setting again names) (E.expr_step setting again names) (E.new_step setting again) (E.part_step setting again) (E.place_step setting again) (E.item_step setting again names) (E.operand_step setting again names) (E.pair_step setting again names)

  abbrev code_item : TypedItem → Instrs
  code_item = fold-TypedItem Code.Given Instrs Instrs Instrs PlaceCode Instrs Instrs (ℕ × Instrs) Code.bind_step Code.expr_step Code.new_step (Code.part_step setting.program) (Code.place_step setting.program) Code.item_step Code.operand_step Code.pair_step

  abbrev run_operand : TypedOperand → Behind
  run_operand = fold-TypedOperand E.Given Run Run Behind Where Entry Behind (ℕ × Run) (E.bind_step setting again names) (E.expr_step setting again names) (E.new_step setting again) (E.part_step setting again) (E.place_step setting again) (E.item_step setting again names) (E.operand_step setting again names) (E.pair_step setting again names)

  abbrev code_operand : TypedOperand → Instrs
  code_operand = fold-TypedOperand Code.Given Instrs Instrs Instrs PlaceCode Instrs Instrs (ℕ × Instrs) Code.bind_step Code.expr_step Code.new_step (Code.part_step setting.program) (Code.place_step setting.program) Code.item_step Code.operand_step Code.pair_step

  abbrev run_pair : TypedPair → ℕ × Run
  run_pair = fold-TypedPair E.Given Run Run Behind Where Entry Behind (ℕ × Run) (E.bind_step setting again names) (E.expr_step setting again names) (E.new_step setting again) (E.part_step setting again) (E.place_step setting again) (E.item_step setting again names) (E.operand_step setting again names) (E.pair_step setting again names)

  abbrev code_pair : TypedPair → ℕ × Instrs
  code_pair = fold-TypedPair Code.Given Instrs Instrs Instrs PlaceCode Instrs Instrs (ℕ × Instrs) Code.bind_step Code.expr_step Code.new_step (Code.part_step setting.program) (Code.place_step setting.program) Code.item_step Code.operand_step Code.pair_step

  -- ---- what holds of each part

  abbrev OfBind : TypedBind → Type 0
  OfBind x = ((run_bind x).0 ≡ (code_bind x).0) × Puts (run_bind x).1 (code_bind x).1

  abbrev SuchBind : Type 0
  SuchBind = (x : TypedBind) × OfBind x

  abbrev OfExpr : TypedExpr → Type 0
  OfExpr x = Puts (run_expr x) (code_expr x)

  abbrev SuchExpr : Type 0
  SuchExpr = (x : TypedExpr) × OfExpr x

  abbrev OfNew : TypedNew → Type 0
  OfNew x = Puts (run_new x) (code_new x)

  abbrev SuchNew : Type 0
  SuchNew = (x : TypedNew) × OfNew x

  abbrev OfPart : TypedPart → Type 0
  OfPart x = Takes (run_part x) (code_part x)

  abbrev SuchPart : Type 0
  SuchPart = (x : TypedPart) × OfPart x

  abbrev OfPlace : TypedPlace → Type 0
  OfPlace x = Places (run_place x) (code_place x)

  abbrev SuchPlace : Type 0
  SuchPlace = (x : TypedPlace) × OfPlace x

  abbrev OfItem : TypedItem → Type 0
  OfItem x = OfLists.PutsEntry (site_of setting) image r (run_item x) (code_item x)

  abbrev SuchItem : Type 0
  SuchItem = (x : TypedItem) × OfItem x

  abbrev OfOperand : TypedOperand → Type 0
  OfOperand x = Takes (run_operand x) (code_operand x)

  abbrev SuchOperand : Type 0
  SuchOperand = (x : TypedOperand) × OfOperand x

  abbrev OfPair : TypedPair → Type 0
  OfPair x = ((run_pair x).0 ≡ (code_pair x).0) × Puts (run_pair x).1 (code_pair x).1

  abbrev SuchPair : Type 0
  SuchPair = (x : TypedPair) × OfPair x

  -- layers over such parts, and the trees that they make
  abbrev ExprLayer : Type 0
  ExprLayer = TypedExpr-F SuchBind SuchExpr SuchNew SuchPart SuchPlace SuchItem SuchOperand SuchPair

  abbrev expr_in : ExprLayer → TypedExpr
  expr_in y = roll-TypedExpr (map-TypedExpr SuchBind SuchExpr SuchNew SuchPart SuchPlace SuchItem SuchOperand SuchPair TypedBind TypedExpr TypedNew TypedPart TypedPlace TypedItem TypedOperand TypedPair (λ e. e.0) (λ e. e.0) (λ e. e.0) (λ e. e.0) (λ e. e.0) (λ e. e.0) (λ e. e.0) (λ e. e.0) y)

  abbrev BindLayer : Type 0
  BindLayer = TypedBind-F SuchBind SuchExpr SuchNew SuchPart SuchPlace SuchItem SuchOperand SuchPair

  abbrev bind_in : BindLayer → TypedBind
  bind_in y = roll-TypedBind (map-TypedBind SuchBind SuchExpr SuchNew SuchPart SuchPlace SuchItem SuchOperand SuchPair TypedBind TypedExpr TypedNew TypedPart TypedPlace TypedItem TypedOperand TypedPair (λ e. e.0) (λ e. e.0) (λ e. e.0) (λ e. e.0) (λ e. e.0) (λ e. e.0) (λ e. e.0) (λ e. e.0) y)

  abbrev NewLayer : Type 0
  NewLayer = TypedNew-F SuchBind SuchExpr SuchNew SuchPart SuchPlace SuchItem SuchOperand SuchPair

  abbrev new_in : NewLayer → TypedNew
  new_in y = roll-TypedNew (map-TypedNew SuchBind SuchExpr SuchNew SuchPart SuchPlace SuchItem SuchOperand SuchPair TypedBind TypedExpr TypedNew TypedPart TypedPlace TypedItem TypedOperand TypedPair (λ e. e.0) (λ e. e.0) (λ e. e.0) (λ e. e.0) (λ e. e.0) (λ e. e.0) (λ e. e.0) (λ e. e.0) y)

  abbrev PartLayer : Type 0
  PartLayer = TypedPart-F SuchBind SuchExpr SuchNew SuchPart SuchPlace SuchItem SuchOperand SuchPair

  abbrev part_in : PartLayer → TypedPart
  part_in y = roll-TypedPart (map-TypedPart SuchBind SuchExpr SuchNew SuchPart SuchPlace SuchItem SuchOperand SuchPair TypedBind TypedExpr TypedNew TypedPart TypedPlace TypedItem TypedOperand TypedPair (λ e. e.0) (λ e. e.0) (λ e. e.0) (λ e. e.0) (λ e. e.0) (λ e. e.0) (λ e. e.0) (λ e. e.0) y)

  abbrev PlaceLayer : Type 0
  PlaceLayer = TypedPlace-F SuchBind SuchExpr SuchNew SuchPart SuchPlace SuchItem SuchOperand SuchPair

  abbrev place_in : PlaceLayer → TypedPlace
  place_in y = roll-TypedPlace (map-TypedPlace SuchBind SuchExpr SuchNew SuchPart SuchPlace SuchItem SuchOperand SuchPair TypedBind TypedExpr TypedNew TypedPart TypedPlace TypedItem TypedOperand TypedPair (λ e. e.0) (λ e. e.0) (λ e. e.0) (λ e. e.0) (λ e. e.0) (λ e. e.0) (λ e. e.0) (λ e. e.0) y)

  abbrev ItemLayer : Type 0
  ItemLayer = TypedItem-F SuchBind SuchExpr SuchNew SuchPart SuchPlace SuchItem SuchOperand SuchPair

  abbrev item_in : ItemLayer → TypedItem
  item_in y = roll-TypedItem (map-TypedItem SuchBind SuchExpr SuchNew SuchPart SuchPlace SuchItem SuchOperand SuchPair TypedBind TypedExpr TypedNew TypedPart TypedPlace TypedItem TypedOperand TypedPair (λ e. e.0) (λ e. e.0) (λ e. e.0) (λ e. e.0) (λ e. e.0) (λ e. e.0) (λ e. e.0) (λ e. e.0) y)

  abbrev OperandLayer : Type 0
  OperandLayer = TypedOperand-F SuchBind SuchExpr SuchNew SuchPart SuchPlace SuchItem SuchOperand SuchPair

  abbrev operand_in : OperandLayer → TypedOperand
  operand_in y = roll-TypedOperand (map-TypedOperand SuchBind SuchExpr SuchNew SuchPart SuchPlace SuchItem SuchOperand SuchPair TypedBind TypedExpr TypedNew TypedPart TypedPlace TypedItem TypedOperand TypedPair (λ e. e.0) (λ e. e.0) (λ e. e.0) (λ e. e.0) (λ e. e.0) (λ e. e.0) (λ e. e.0) (λ e. e.0) y)

  abbrev PairLayer : Type 0
  PairLayer = TypedPair-F SuchBind SuchExpr SuchNew SuchPart SuchPlace SuchItem SuchOperand SuchPair

  abbrev pair_in : PairLayer → TypedPair
  pair_in y = roll-TypedPair (map-TypedPair SuchBind SuchExpr SuchNew SuchPart SuchPlace SuchItem SuchOperand SuchPair TypedBind TypedExpr TypedNew TypedPart TypedPlace TypedItem TypedOperand TypedPair (λ e. e.0) (λ e. e.0) (λ e. e.0) (λ e. e.0) (λ e. e.0) (λ e. e.0) (λ e. e.0) (λ e. e.0) y)

  -- ---- one layer: its step is what it does, and its step is its code

  abbrev runs_bind : TypedBind-F TypedBind TypedExpr TypedNew TypedPart TypedPlace TypedItem TypedOperand TypedPair → TypedBind-F E.Given Run Run Behind Where Entry Behind (ℕ × Run)
  runs_bind z = map-TypedBind TypedBind TypedExpr TypedNew TypedPart TypedPlace TypedItem TypedOperand TypedPair E.Given Run Run Behind Where Entry Behind (ℕ × Run) run_bind run_expr run_new run_part run_place run_item run_operand run_pair z

  abbrev codes_bind : TypedBind-F TypedBind TypedExpr TypedNew TypedPart TypedPlace TypedItem TypedOperand TypedPair → TypedBind-F Code.Given Instrs Instrs Instrs PlaceCode Instrs Instrs (ℕ × Instrs)
  codes_bind z = map-TypedBind TypedBind TypedExpr TypedNew TypedPart TypedPlace TypedItem TypedOperand TypedPair Code.Given Instrs Instrs Instrs PlaceCode Instrs Instrs (ℕ × Instrs) code_bind code_expr code_new code_part code_place code_item code_operand code_pair z

  abbrev runs_expr : TypedExpr-F TypedBind TypedExpr TypedNew TypedPart TypedPlace TypedItem TypedOperand TypedPair → TypedExpr-F E.Given Run Run Behind Where Entry Behind (ℕ × Run)
  runs_expr z = map-TypedExpr TypedBind TypedExpr TypedNew TypedPart TypedPlace TypedItem TypedOperand TypedPair E.Given Run Run Behind Where Entry Behind (ℕ × Run) run_bind run_expr run_new run_part run_place run_item run_operand run_pair z

  abbrev codes_expr : TypedExpr-F TypedBind TypedExpr TypedNew TypedPart TypedPlace TypedItem TypedOperand TypedPair → TypedExpr-F Code.Given Instrs Instrs Instrs PlaceCode Instrs Instrs (ℕ × Instrs)
  codes_expr z = map-TypedExpr TypedBind TypedExpr TypedNew TypedPart TypedPlace TypedItem TypedOperand TypedPair Code.Given Instrs Instrs Instrs PlaceCode Instrs Instrs (ℕ × Instrs) code_bind code_expr code_new code_part code_place code_item code_operand code_pair z

  abbrev runs_new : TypedNew-F TypedBind TypedExpr TypedNew TypedPart TypedPlace TypedItem TypedOperand TypedPair → TypedNew-F E.Given Run Run Behind Where Entry Behind (ℕ × Run)
  runs_new z = map-TypedNew TypedBind TypedExpr TypedNew TypedPart TypedPlace TypedItem TypedOperand TypedPair E.Given Run Run Behind Where Entry Behind (ℕ × Run) run_bind run_expr run_new run_part run_place run_item run_operand run_pair z

  abbrev codes_new : TypedNew-F TypedBind TypedExpr TypedNew TypedPart TypedPlace TypedItem TypedOperand TypedPair → TypedNew-F Code.Given Instrs Instrs Instrs PlaceCode Instrs Instrs (ℕ × Instrs)
  codes_new z = map-TypedNew TypedBind TypedExpr TypedNew TypedPart TypedPlace TypedItem TypedOperand TypedPair Code.Given Instrs Instrs Instrs PlaceCode Instrs Instrs (ℕ × Instrs) code_bind code_expr code_new code_part code_place code_item code_operand code_pair z

  abbrev runs_part : TypedPart-F TypedBind TypedExpr TypedNew TypedPart TypedPlace TypedItem TypedOperand TypedPair → TypedPart-F E.Given Run Run Behind Where Entry Behind (ℕ × Run)
  runs_part z = map-TypedPart TypedBind TypedExpr TypedNew TypedPart TypedPlace TypedItem TypedOperand TypedPair E.Given Run Run Behind Where Entry Behind (ℕ × Run) run_bind run_expr run_new run_part run_place run_item run_operand run_pair z

  abbrev codes_part : TypedPart-F TypedBind TypedExpr TypedNew TypedPart TypedPlace TypedItem TypedOperand TypedPair → TypedPart-F Code.Given Instrs Instrs Instrs PlaceCode Instrs Instrs (ℕ × Instrs)
  codes_part z = map-TypedPart TypedBind TypedExpr TypedNew TypedPart TypedPlace TypedItem TypedOperand TypedPair Code.Given Instrs Instrs Instrs PlaceCode Instrs Instrs (ℕ × Instrs) code_bind code_expr code_new code_part code_place code_item code_operand code_pair z

  abbrev runs_place : TypedPlace-F TypedBind TypedExpr TypedNew TypedPart TypedPlace TypedItem TypedOperand TypedPair → TypedPlace-F E.Given Run Run Behind Where Entry Behind (ℕ × Run)
  runs_place z = map-TypedPlace TypedBind TypedExpr TypedNew TypedPart TypedPlace TypedItem TypedOperand TypedPair E.Given Run Run Behind Where Entry Behind (ℕ × Run) run_bind run_expr run_new run_part run_place run_item run_operand run_pair z

  abbrev codes_place : TypedPlace-F TypedBind TypedExpr TypedNew TypedPart TypedPlace TypedItem TypedOperand TypedPair → TypedPlace-F Code.Given Instrs Instrs Instrs PlaceCode Instrs Instrs (ℕ × Instrs)
  codes_place z = map-TypedPlace TypedBind TypedExpr TypedNew TypedPart TypedPlace TypedItem TypedOperand TypedPair Code.Given Instrs Instrs Instrs PlaceCode Instrs Instrs (ℕ × Instrs) code_bind code_expr code_new code_part code_place code_item code_operand code_pair z

  abbrev runs_item : TypedItem-F TypedBind TypedExpr TypedNew TypedPart TypedPlace TypedItem TypedOperand TypedPair → TypedItem-F E.Given Run Run Behind Where Entry Behind (ℕ × Run)
  runs_item z = map-TypedItem TypedBind TypedExpr TypedNew TypedPart TypedPlace TypedItem TypedOperand TypedPair E.Given Run Run Behind Where Entry Behind (ℕ × Run) run_bind run_expr run_new run_part run_place run_item run_operand run_pair z

  abbrev codes_item : TypedItem-F TypedBind TypedExpr TypedNew TypedPart TypedPlace TypedItem TypedOperand TypedPair → TypedItem-F Code.Given Instrs Instrs Instrs PlaceCode Instrs Instrs (ℕ × Instrs)
  codes_item z = map-TypedItem TypedBind TypedExpr TypedNew TypedPart TypedPlace TypedItem TypedOperand TypedPair Code.Given Instrs Instrs Instrs PlaceCode Instrs Instrs (ℕ × Instrs) code_bind code_expr code_new code_part code_place code_item code_operand code_pair z

  abbrev runs_operand : TypedOperand-F TypedBind TypedExpr TypedNew TypedPart TypedPlace TypedItem TypedOperand TypedPair → TypedOperand-F E.Given Run Run Behind Where Entry Behind (ℕ × Run)
  runs_operand z = map-TypedOperand TypedBind TypedExpr TypedNew TypedPart TypedPlace TypedItem TypedOperand TypedPair E.Given Run Run Behind Where Entry Behind (ℕ × Run) run_bind run_expr run_new run_part run_place run_item run_operand run_pair z

  abbrev codes_operand : TypedOperand-F TypedBind TypedExpr TypedNew TypedPart TypedPlace TypedItem TypedOperand TypedPair → TypedOperand-F Code.Given Instrs Instrs Instrs PlaceCode Instrs Instrs (ℕ × Instrs)
  codes_operand z = map-TypedOperand TypedBind TypedExpr TypedNew TypedPart TypedPlace TypedItem TypedOperand TypedPair Code.Given Instrs Instrs Instrs PlaceCode Instrs Instrs (ℕ × Instrs) code_bind code_expr code_new code_part code_place code_item code_operand code_pair z

  abbrev runs_pair : TypedPair-F TypedBind TypedExpr TypedNew TypedPart TypedPlace TypedItem TypedOperand TypedPair → TypedPair-F E.Given Run Run Behind Where Entry Behind (ℕ × Run)
  runs_pair z = map-TypedPair TypedBind TypedExpr TypedNew TypedPart TypedPlace TypedItem TypedOperand TypedPair E.Given Run Run Behind Where Entry Behind (ℕ × Run) run_bind run_expr run_new run_part run_place run_item run_operand run_pair z

  abbrev codes_pair : TypedPair-F TypedBind TypedExpr TypedNew TypedPart TypedPlace TypedItem TypedOperand TypedPair → TypedPair-F Code.Given Instrs Instrs Instrs PlaceCode Instrs Instrs (ℕ × Instrs)
  codes_pair z = map-TypedPair TypedBind TypedExpr TypedNew TypedPart TypedPlace TypedItem TypedOperand TypedPair Code.Given Instrs Instrs Instrs PlaceCode Instrs Instrs (ℕ × Instrs) code_bind code_expr code_new code_part code_place code_item code_operand code_pair z

  run_rolled_bind : (z : TypedBind-F TypedBind TypedExpr TypedNew TypedPart TypedPlace TypedItem TypedOperand TypedPair) → run_bind (roll-TypedBind z) ≡ E.bind_step setting again names (runs_bind z)
  run_rolled_bind z = fold-roll-TypedBind E.Given Run Run Behind Where Entry Behind (ℕ × Run) (E.bind_step setting again names) (E.expr_step setting again names) (E.new_step setting again) (E.part_step setting again) (E.place_step setting again) (E.item_step setting again names) (E.operand_step setting again names) (E.pair_step setting again names) z

  code_rolled_bind : (z : TypedBind-F TypedBind TypedExpr TypedNew TypedPart TypedPlace TypedItem TypedOperand TypedPair) → code_bind (roll-TypedBind z) ≡ Code.bind_step (codes_bind z)
  code_rolled_bind z = fold-roll-TypedBind Code.Given Instrs Instrs Instrs PlaceCode Instrs Instrs (ℕ × Instrs) Code.bind_step Code.expr_step Code.new_step (Code.part_step setting.program) (Code.place_step setting.program) Code.item_step Code.operand_step Code.pair_step z

  run_rolled_expr : (z : TypedExpr-F TypedBind TypedExpr TypedNew TypedPart TypedPlace TypedItem TypedOperand TypedPair) → run_expr (roll-TypedExpr z) ≡ E.expr_step setting again names (runs_expr z)
  run_rolled_expr z = fold-roll-TypedExpr E.Given Run Run Behind Where Entry Behind (ℕ × Run) (E.bind_step setting again names) (E.expr_step setting again names) (E.new_step setting again) (E.part_step setting again) (E.place_step setting again) (E.item_step setting again names) (E.operand_step setting again names) (E.pair_step setting again names) z

  code_rolled_expr : (z : TypedExpr-F TypedBind TypedExpr TypedNew TypedPart TypedPlace TypedItem TypedOperand TypedPair) → code_expr (roll-TypedExpr z) ≡ Code.expr_step (codes_expr z)
  code_rolled_expr z = fold-roll-TypedExpr Code.Given Instrs Instrs Instrs PlaceCode Instrs Instrs (ℕ × Instrs) Code.bind_step Code.expr_step Code.new_step (Code.part_step setting.program) (Code.place_step setting.program) Code.item_step Code.operand_step Code.pair_step z

  run_rolled_new : (z : TypedNew-F TypedBind TypedExpr TypedNew TypedPart TypedPlace TypedItem TypedOperand TypedPair) → run_new (roll-TypedNew z) ≡ E.new_step setting again (runs_new z)
  run_rolled_new z = fold-roll-TypedNew E.Given Run Run Behind Where Entry Behind (ℕ × Run) (E.bind_step setting again names) (E.expr_step setting again names) (E.new_step setting again) (E.part_step setting again) (E.place_step setting again) (E.item_step setting again names) (E.operand_step setting again names) (E.pair_step setting again names) z

  code_rolled_new : (z : TypedNew-F TypedBind TypedExpr TypedNew TypedPart TypedPlace TypedItem TypedOperand TypedPair) → code_new (roll-TypedNew z) ≡ Code.new_step (codes_new z)
  code_rolled_new z = fold-roll-TypedNew Code.Given Instrs Instrs Instrs PlaceCode Instrs Instrs (ℕ × Instrs) Code.bind_step Code.expr_step Code.new_step (Code.part_step setting.program) (Code.place_step setting.program) Code.item_step Code.operand_step Code.pair_step z

  run_rolled_part : (z : TypedPart-F TypedBind TypedExpr TypedNew TypedPart TypedPlace TypedItem TypedOperand TypedPair) → run_part (roll-TypedPart z) ≡ E.part_step setting again (runs_part z)
  run_rolled_part z = fold-roll-TypedPart E.Given Run Run Behind Where Entry Behind (ℕ × Run) (E.bind_step setting again names) (E.expr_step setting again names) (E.new_step setting again) (E.part_step setting again) (E.place_step setting again) (E.item_step setting again names) (E.operand_step setting again names) (E.pair_step setting again names) z

  code_rolled_part : (z : TypedPart-F TypedBind TypedExpr TypedNew TypedPart TypedPlace TypedItem TypedOperand TypedPair) → code_part (roll-TypedPart z) ≡ Code.part_step setting.program (codes_part z)
  code_rolled_part z = fold-roll-TypedPart Code.Given Instrs Instrs Instrs PlaceCode Instrs Instrs (ℕ × Instrs) Code.bind_step Code.expr_step Code.new_step (Code.part_step setting.program) (Code.place_step setting.program) Code.item_step Code.operand_step Code.pair_step z

  run_rolled_place : (z : TypedPlace-F TypedBind TypedExpr TypedNew TypedPart TypedPlace TypedItem TypedOperand TypedPair) → run_place (roll-TypedPlace z) ≡ E.place_step setting again (runs_place z)
  run_rolled_place z = fold-roll-TypedPlace E.Given Run Run Behind Where Entry Behind (ℕ × Run) (E.bind_step setting again names) (E.expr_step setting again names) (E.new_step setting again) (E.part_step setting again) (E.place_step setting again) (E.item_step setting again names) (E.operand_step setting again names) (E.pair_step setting again names) z

  code_rolled_place : (z : TypedPlace-F TypedBind TypedExpr TypedNew TypedPart TypedPlace TypedItem TypedOperand TypedPair) → code_place (roll-TypedPlace z) ≡ Code.place_step setting.program (codes_place z)
  code_rolled_place z = fold-roll-TypedPlace Code.Given Instrs Instrs Instrs PlaceCode Instrs Instrs (ℕ × Instrs) Code.bind_step Code.expr_step Code.new_step (Code.part_step setting.program) (Code.place_step setting.program) Code.item_step Code.operand_step Code.pair_step z

  run_rolled_item : (z : TypedItem-F TypedBind TypedExpr TypedNew TypedPart TypedPlace TypedItem TypedOperand TypedPair) → run_item (roll-TypedItem z) ≡ E.item_step setting again names (runs_item z)
  run_rolled_item z = fold-roll-TypedItem E.Given Run Run Behind Where Entry Behind (ℕ × Run) (E.bind_step setting again names) (E.expr_step setting again names) (E.new_step setting again) (E.part_step setting again) (E.place_step setting again) (E.item_step setting again names) (E.operand_step setting again names) (E.pair_step setting again names) z

  code_rolled_item : (z : TypedItem-F TypedBind TypedExpr TypedNew TypedPart TypedPlace TypedItem TypedOperand TypedPair) → code_item (roll-TypedItem z) ≡ Code.item_step (codes_item z)
  code_rolled_item z = fold-roll-TypedItem Code.Given Instrs Instrs Instrs PlaceCode Instrs Instrs (ℕ × Instrs) Code.bind_step Code.expr_step Code.new_step (Code.part_step setting.program) (Code.place_step setting.program) Code.item_step Code.operand_step Code.pair_step z

  run_rolled_operand : (z : TypedOperand-F TypedBind TypedExpr TypedNew TypedPart TypedPlace TypedItem TypedOperand TypedPair) → run_operand (roll-TypedOperand z) ≡ E.operand_step setting again names (runs_operand z)
  run_rolled_operand z = fold-roll-TypedOperand E.Given Run Run Behind Where Entry Behind (ℕ × Run) (E.bind_step setting again names) (E.expr_step setting again names) (E.new_step setting again) (E.part_step setting again) (E.place_step setting again) (E.item_step setting again names) (E.operand_step setting again names) (E.pair_step setting again names) z

  code_rolled_operand : (z : TypedOperand-F TypedBind TypedExpr TypedNew TypedPart TypedPlace TypedItem TypedOperand TypedPair) → code_operand (roll-TypedOperand z) ≡ Code.operand_step (codes_operand z)
  code_rolled_operand z = fold-roll-TypedOperand Code.Given Instrs Instrs Instrs PlaceCode Instrs Instrs (ℕ × Instrs) Code.bind_step Code.expr_step Code.new_step (Code.part_step setting.program) (Code.place_step setting.program) Code.item_step Code.operand_step Code.pair_step z

  run_rolled_pair : (z : TypedPair-F TypedBind TypedExpr TypedNew TypedPart TypedPlace TypedItem TypedOperand TypedPair) → run_pair (roll-TypedPair z) ≡ E.pair_step setting again names (runs_pair z)
  run_rolled_pair z = fold-roll-TypedPair E.Given Run Run Behind Where Entry Behind (ℕ × Run) (E.bind_step setting again names) (E.expr_step setting again names) (E.new_step setting again) (E.part_step setting again) (E.place_step setting again) (E.item_step setting again names) (E.operand_step setting again names) (E.pair_step setting again names) z

  code_rolled_pair : (z : TypedPair-F TypedBind TypedExpr TypedNew TypedPart TypedPlace TypedItem TypedOperand TypedPair) → code_pair (roll-TypedPair z) ≡ Code.pair_step (codes_pair z)
  code_rolled_pair z = fold-roll-TypedPair Code.Given Instrs Instrs Instrs PlaceCode Instrs Instrs (ℕ × Instrs) Code.bind_step Code.expr_step Code.new_step (Code.part_step setting.program) (Code.place_step setting.program) Code.item_step Code.operand_step Code.pair_step z

  puts_expr : (z : TypedExpr-F TypedBind TypedExpr TypedNew TypedPart TypedPlace TypedItem TypedOperand TypedPair) (f : Run) (code : Instrs) → ((st : State) → E.expr_step setting again names (runs_expr z) st ≡ f st) → Code.expr_step (codes_expr z) ≡ code → Puts f code → OfExpr (roll-TypedExpr z)
  puts_expr z f code q e h = Sim.puts_same (site_of setting) image r (run_expr (roll-TypedExpr z)) f (code_expr (roll-TypedExpr z)) code (λ st. ap (λ g. g st) (run_rolled_expr z) ∙ q st) (code_rolled_expr z ∙ e) h

  puts_new : (z : TypedNew-F TypedBind TypedExpr TypedNew TypedPart TypedPlace TypedItem TypedOperand TypedPair) (f : Run) (code : Instrs) → ((st : State) → E.new_step setting again (runs_new z) st ≡ f st) → Code.new_step (codes_new z) ≡ code → Puts f code → OfNew (roll-TypedNew z)
  puts_new z f code q e h = Sim.puts_same (site_of setting) image r (run_new (roll-TypedNew z)) f (code_new (roll-TypedNew z)) code (λ st. ap (λ g. g st) (run_rolled_new z) ∙ q st) (code_rolled_new z ∙ e) h

  takes_part : (z : TypedPart-F TypedBind TypedExpr TypedNew TypedPart TypedPlace TypedItem TypedOperand TypedPair) (f : Behind) (code : Instrs) → ((v : Value) (st : State) → E.part_step setting again (runs_part z) v st ≡ f v st) → Code.part_step setting.program (codes_part z) ≡ code → Takes f code → OfPart (roll-TypedPart z)
  takes_part z f code q e h = Sim.takes_same (site_of setting) image r (run_part (roll-TypedPart z)) f (code_part (roll-TypedPart z)) code (λ v st. ap (λ g. g v st) (run_rolled_part z) ∙ q v st) (code_rolled_part z ∙ e) h

  places_same : (f g : Where) (p q : PlaceCode) → f ≡ g → p ≡ q → Places g q → Places f p
  places_same f g p q e h x = subst (λ y. Places y p) (sym e) (subst (λ y. Places g y) (sym h) x)

  is_place : (z : TypedPlace-F TypedBind TypedExpr TypedNew TypedPart TypedPlace TypedItem TypedOperand TypedPair) → Places (E.place_step setting again (runs_place z)) (Code.place_step setting.program (codes_place z)) → OfPlace (roll-TypedPlace z)
  is_place z h = places_same _ _ _ _ (run_rolled_place z) (code_rolled_place z) h

  -- ---- lists of parts

  all_puts : (es : List SuchExpr) → OfLists.AllPut (site_of setting) image r (map run_expr (map (λ e. e.0) es)) (map code_expr (map (λ e. e.0) es))
  all_puts [] = tt
  all_puts (e ∷ es) = (e.1, all_puts es)

  all_parts : (ps : List SuchPart) → OfValues.AllTake (site_of setting) image r (map run_part (map (λ e. e.0) ps)) (map code_part (map (λ e. e.0) ps))
  all_parts [] = tt
  all_parts (p ∷ ps) = (p.1, all_parts ps)

  all_operands : (os : List SuchOperand) → OfValues.AllTake (site_of setting) image r (map run_operand (map (λ e. e.0) os)) (map code_operand (map (λ e. e.0) os))
  all_operands [] = tt
  all_operands (o ∷ os) = (o.1, all_operands os)

  all_items : (xs : List SuchItem) → OfLists.AllEnter (site_of setting) image r (map run_item (map (λ e. e.0) xs)) (map code_item (map (λ e. e.0) xs))
  all_items [] = tt
  all_items (x ∷ xs) = (x.1, all_items xs)

  all_fields : (ps : List SuchPair) → OfLists.AllFill (site_of setting) image r (map run_pair (map (λ e. e.0) ps)) (map code_pair (map (λ e. e.0) ps))
  all_fields [] = tt
  all_fields (p ∷ ps) = ((p.1.0, p.1.1), all_fields ps)

  all_binds : (bs : List SuchBind) → OfQueries.AllBind (site_of setting) image r (map run_bind (map (λ e. e.0) bs)) (map code_bind (map (λ e. e.0) bs))
  all_binds [] = tt
  all_binds (b ∷ bs) = ((b.1.0, b.1.1), all_binds bs)

  abbrev exprs : List SuchExpr → List TypedExpr
  exprs es = map (λ e. e.0) es

  -- values, and what takes them
  taking : (es : List SuchExpr) (go : List Value → Run) (code : Instrs) →
      ((args : List Value) (a : Around) (k : Instrs) (temps : List Value) (s : State) → length args ≡ length (map code_expr (exprs es)) → OfValues.Follow (site_of setting) image r a k temps (go args s) → Sim.At (site_of setting) image r a (code ++ k) (OfLists.pushed args temps) s) →
      Puts (λ st. bind (all_of (map run_expr (exprs es)) st) go) (joined (map code_expr (exprs es)) ++ code)
  taking es go code then = OfCalls.with_args setting image r is again follows (map run_expr (exprs es)) (map code_expr (exprs es)) (all_puts es) go code then

  taking_on : (es : List SuchExpr) (go : List Value → Value → Run) (code : Instrs) →
      ((args : List Value) (v : Value) (a : Around) (k : Instrs) (temps : List Value) (s : State) → length args ≡ length (map code_expr (exprs es)) → OfValues.Follow (site_of setting) image r a k temps (go args v s) → Sim.At (site_of setting) image r a (code ++ k) (OfLists.pushed args (v ∷ temps)) s) →
      Takes (λ v st. bind (all_of (map run_expr (exprs es)) st) (λ args s. go args v s)) (joined (map code_expr (exprs es)) ++ code)
  taking_on es go code then = OfCalls.with_args_on setting image r is again follows (map run_expr (exprs es)) (map code_expr (exprs es)) (all_puts es) go code then

  -- a value, and what goes on with it
  then_takes : (p : SuchExpr) (g : Behind) (code : Instrs) → Takes g code → Puts (λ st. bind (run_expr p.0 st) g) (code_expr p.0 ++ code)
  then_takes p g code h = Sim.puts_then (site_of setting) image r (run_expr p.0) g (code_expr p.0) code p.1 h

  converts : (how : Conversion) (p : SuchExpr) → Puts (λ st. bind (run_expr p.0 st) (λ v s. calc (converted how v) s)) (code_expr p.0 ++ I.Convert how ∷ [])
  converts how p = then_takes p (λ v s. calc (converted how v) s) (I.Convert how ∷ []) (OfValues.converted_at (site_of setting) image r how)

  -- ---- the forms

  expr_layer : (y : ExprLayer) → OfExpr (expr_in y)
  expr_layer (TypedExpr-F.Constant k) =
      puts_expr (TypedExpr-F.Constant k) _ _ (λ st. refl) refl
      (OfValues.constant_at (site_of setting) image r (is_cell k) k)
  expr_layer (TypedExpr-F.«TypedExpr::Local» x) =
      puts_expr (TypedExpr-F.«TypedExpr::Local» x) _ _ (λ st. refl) refl
      (OfValues.local_at (site_of setting) image r x)
  expr_layer (TypedExpr-F.«TypedExpr::Static» c n) =
      puts_expr (TypedExpr-F.«TypedExpr::Static» c n) _ _ (λ st. refl) refl
      (OfPlaces.static_at setting image r is again follows c n)
  expr_layer TypedExpr-F.This = puts_expr TypedExpr-F.This _ _ (λ st. refl) refl (OfValues.this_at (site_of setting) image r)
  expr_layer (TypedExpr-F.Postfix p ps) =
      puts_expr (TypedExpr-F.Postfix p.0 (map (λ x. x.0) ps)) _ _ (λ st. refl) refl
      (then_takes p (parts_of (map run_part (map (λ x. x.0) ps))) (joined (map code_part (map (λ x. x.0) ps))) (OfValues.parts_at (site_of setting) image r (map run_part (map (λ x. x.0) ps)) (map code_part (map (λ x. x.0) ps)) (all_parts ps)))
  expr_layer (TypedExpr-F.Chain p os) =
      puts_expr (TypedExpr-F.Chain p.0 (map (λ x. x.0) os)) _ _ (λ st. refl) refl
      (then_takes p (chained (map run_operand (map (λ x. x.0) os))) (joined (map code_operand (map (λ x. x.0) os))) (OfValues.chain_at (site_of setting) image r (map run_operand (map (λ x. x.0) os)) (map code_operand (map (λ x. x.0) os)) (all_operands os)))
  expr_layer (TypedExpr-F.Convert Conv.ToRecord p) =
      puts_expr (TypedExpr-F.Convert Conv.ToRecord p.0) _ _ (λ st. refl) refl
      (then_takes p (λ v s. calc (only v s.world.heap) s) (I.Only ∷ []) (OfThings.only_at (site_of setting) image r))
  expr_layer (TypedExpr-F.Convert Conv.Same p) =
      puts_expr (TypedExpr-F.Convert Conv.Same p.0) _ _ (λ st. refl) refl
      (converts Conv.Same p)
  expr_layer (TypedExpr-F.Convert Conv.ToLong p) =
      puts_expr (TypedExpr-F.Convert Conv.ToLong p.0) _ _ (λ st. refl) refl
      (converts Conv.ToLong p)
  expr_layer (TypedExpr-F.Convert Conv.ToDecimal p) =
      puts_expr (TypedExpr-F.Convert Conv.ToDecimal p.0) _ _ (λ st. refl) refl
      (converts Conv.ToDecimal p)
  expr_layer (TypedExpr-F.Convert Conv.ToId p) =
      puts_expr (TypedExpr-F.Convert Conv.ToId p.0) _ _ (λ st. refl) refl
      (converts Conv.ToId p)
  expr_layer (TypedExpr-F.Convert Conv.ToText p) =
      puts_expr (TypedExpr-F.Convert Conv.ToText p.0) _ _ (λ st. refl) refl
      (converts Conv.ToText p)
  expr_layer (TypedExpr-F.Not p) =
      puts_expr (TypedExpr-F.Not p.0) (λ st. bind (run_expr p.0 st) (λ v s. bind (truth_of v s) OfValues.other)) _ (λ st. bind_bind (run_expr p.0 st) truth_of OfValues.other) refl
      (then_takes p (λ v s. bind (truth_of v s) OfValues.other) (I.Not ∷ []) (OfValues.not_at (site_of setting) image r))
  expr_layer (TypedExpr-F.Minus n p) =
      puts_expr (TypedExpr-F.Minus n p.0) _ _ (λ st. refl) refl
      (then_takes p (λ v s. calc (negated n v) s) (I.Negate n ∷ []) (OfValues.negate_at (site_of setting) image r n))
  expr_layer (TypedExpr-F.Conditional p q x) =
      puts_expr (TypedExpr-F.Conditional p.0 q.0 x.0) _ _ (λ st. refl) refl
      (OfValues.chosen_at (site_of setting) image r (test (run_expr p.0)) (chosen setting again (run_expr q.0) (run_expr x.0)) (code_expr p.0) (code_expr q.0) (code_expr x.0) (OfValues.tests_at (site_of setting) image r (run_expr p.0) (code_expr p.0) p.1) q.1 x.1)
  expr_layer (TypedExpr-F.Assign t p) =
      puts_expr (TypedExpr-F.Assign t.0 p.0) _ _ (λ st. refl) refl
      (OfPlaces.assign_at setting image r is again follows (run_place t.0) (code_place t.0) t.1 (run_expr p.0) (code_expr p.0) p.1)
  expr_layer (TypedExpr-F.AssignWith t how p) =
      puts_expr (TypedExpr-F.AssignWith t.0 how p.0) _ _ (λ st. refl) refl
      (OfPlaces.assign_with_at setting image r is again follows (run_place t.0) (code_place t.0) t.1 how (run_expr p.0) (code_expr p.0) p.1)
  expr_layer (TypedExpr-F.Step kind n t) =
      puts_expr (TypedExpr-F.Step kind n t.0) _ _ (λ st. refl) refl
      (OfPlaces.step_at setting image r is again follows (run_place t.0) (code_place t.0) t.1 kind n)
  expr_layer (TypedExpr-F.Cast c p) =
      puts_expr (TypedExpr-F.Cast c p.0) _ _ (λ st. refl) refl
      (then_takes p (cast_to (is_declared setting.program c)) (I.Cast c ∷ []) (OfThings.cast_at setting image r is c))
  expr_layer (TypedExpr-F.CastException c p) =
      puts_expr (TypedExpr-F.CastException c p.0) _ _ (λ st. refl) refl
      (then_takes p (cast_to (is_built_in c)) (I.CastException c ∷ []) (OfThings.cast_exception_at (site_of setting) image r c))
  expr_layer (TypedExpr-F.New n) = puts_expr (TypedExpr-F.New n.0) (run_new n.0) (code_new n.0) (λ st. refl) refl n.1
  expr_layer (TypedExpr-F.CallStatic c m es) =
      puts_expr (TypedExpr-F.CallStatic c m (exprs es)) _ _ (λ st. refl) refl
      (taking es (E.call_static setting again c m) (I.Prepare c ∷ I.CallStatic c m (length (map code_expr (exprs es))) ∷ []) (λ args a k temps s n h. OfCalls.call_static_at setting image r is again follows c m (length (map code_expr (exprs es))) args a k temps s n h))
  expr_layer (TypedExpr-F.CallBuiltin which es) =
      puts_expr (TypedExpr-F.CallBuiltin which (exprs es)) _ _ (λ st. refl) refl
      (taking es (called_builtin setting.program setting.ticket which) (I.Builtin which (length (map code_expr (exprs es))) ∷ []) (λ args a k temps s n h. OfThings.builtin_at setting image r is a which (length (map code_expr (exprs es))) args k temps s n h))
  expr_layer (TypedExpr-F.Debug p) =
      puts_expr (TypedExpr-F.Debug p.0) _ _ (λ st. refl) refl
      (then_takes p (say setting again names) (I.Print ∷ []) (OfThings.print_at setting image r is again names named))
  expr_layer (TypedExpr-F.Query q bs) =
      puts_expr (TypedExpr-F.Query q (map (λ x. x.0) bs)) _ _ (λ st. refl) refl
      (OfQueries.query_at (site_of setting) image r (queried q) (map run_bind (map (λ x. x.0) bs)) (map code_bind (map (λ x. x.0) bs)) (all_binds bs))
  expr_layer (TypedExpr-F.TriggerVariable v) =
      puts_expr (TypedExpr-F.TriggerVariable v) _ _ (λ st. refl) refl
      (Sim.puts_then (site_of setting) image r (λ st. Gives st.here.this st) (field_in (place_of v)) (I.This ∷ []) (I.Get (S.Field (place_of v)) ∷ []) (OfValues.this_at (site_of setting) image r) (OfPlaces.field_at setting image r (place_of v)))

  new_layer : (y : NewLayer) → OfNew (new_in y)
  new_layer (TypedNew-F.Instance c how es) =
      puts_new (TypedNew-F.Instance c how (exprs es)) _ _ (λ st. refl) refl
      (taking es (new_instance setting.program again c how) (Code.new_code c how (length (map code_expr (exprs es)))) (λ args a k temps s n h. OfCalls.new_at setting image r is again follows c how (length (map code_expr (exprs es))) args a k temps s n h))
  new_layer (TypedNew-F.Exception x es) =
      puts_new (TypedNew-F.Exception x (exprs es)) _ _ (λ st. refl) refl
      (taking es (make_exception x) (I.Exception x (length (map code_expr (exprs es))) ∷ []) (λ args a k temps s n h. OfThings.exception_at (site_of setting) image r a x (length (map code_expr (exprs es))) args k temps s n h))
  new_layer (TypedNew-F.Collection kind es) =
      puts_new (TypedNew-F.Collection kind (exprs es)) _ _ (λ st. refl) refl
      (taking es (make_filled kind) (I.Filled kind (length (map code_expr (exprs es))) ∷ []) (λ args a k temps s n h. OfThings.filled_at (site_of setting) image r a kind (length (map code_expr (exprs es))) args k temps s n h))
  new_layer (TypedNew-F.Record object ps) =
      puts_new (TypedNew-F.Record object (map (λ x. x.0) ps)) _ _ (λ st. refl) refl
      (OfThings.new_record_at (site_of setting) image r object (map run_pair (map (λ x. x.0) ps)) (map code_pair (map (λ x. x.0) ps)) (all_fields ps))
  new_layer (TypedNew-F.Map key xs) =
      puts_new (TypedNew-F.Map key (map (λ x. x.0) xs)) _ _ (λ st. refl) refl
      (OfThings.new_map_at (site_of setting) image r (map run_item (map (λ x. x.0) xs)) (map code_item (map (λ x. x.0) xs)) (all_items xs))
  new_layer (TypedNew-F.Copy kind p) =
      puts_new (TypedNew-F.Copy kind p.0) _ _ (λ st. refl) refl
      (then_takes p (make_copy kind) (I.Copied kind ∷ []) (OfThings.copied_at (site_of setting) image r kind))
  new_layer (TypedNew-F.ById p) =
      puts_new (TypedNew-F.ById p.0) _ _ (λ st. refl) refl
      (then_takes p (make_copy (Kinds.Map Primitive.Id)) (I.Copied (Kinds.Map Primitive.Id) ∷ []) (OfThings.copied_at (site_of setting) image r (Kinds.Map Primitive.Id)))

  -- an element of a list
  item_at : (p : SuchExpr) → Takes (λ v st. bind (run_expr p.0 st) (λ i s. on_collection (Which.List L.Get) v (i ∷ []) s)) (code_expr p.0 ++ I.Get S.Item ∷ [])
  item_at p a v k temps st post =
      Sim.again_at (site_of setting) image r a (code_expr p.0) (I.Get S.Item ∷ []) k (v ∷ temps) st
      (p.1 a (I.Get S.Item ∷ k) (v ∷ temps) st
      (weaken _ _ (Sim.Stopped (site_of setting) image r a) (run_expr p.0 st) (λ i s h. OfPlaces.get_at setting image r a (ItemAt v i) k temps s h)
      (bound (λ x s. Sim.At (site_of setting) image r a k (x ∷ temps) s) (Sim.Stopped (site_of setting) image r a) (run_expr p.0 st) (λ i s. on_collection (Which.List L.Get) v (i ∷ []) s) post)))

  part_layer : (y : PartLayer) → OfPart (part_in y)
  part_layer (TypedPart-F.«TypedPart::Field» c n) =
      takes_part (TypedPart-F.«TypedPart::Field» c n) _ _ (λ v st. refl) refl
      (OfPlaces.field_at setting image r (field_place setting.program c n))
  part_layer (TypedPart-F.«TypedPart::Index» p) =
      takes_part (TypedPart-F.«TypedPart::Index» p.0) _ _ (λ v st. refl) refl
      (item_at p)
  part_layer (TypedPart-F.Call c m virtual es) =
      takes_part (TypedPart-F.Call c m virtual (exprs es)) _ _ (λ v st. refl) refl
      (taking_on es (λ args v. E.call_on setting again c m virtual args v) (Code.call_code virtual c m (length (map code_expr (exprs es))) ∷ []) (λ args v a k temps s n h. OfCalls.call_at setting image r is again follows c m virtual (length (map code_expr (exprs es))) args v a k temps s n h))
  part_layer (TypedPart-F.Builtin which es) =
      takes_part (TypedPart-F.Builtin which (exprs es)) _ _ (λ v st. refl) refl
      (taking_on es (λ args v. called_builtin setting.program setting.ticket which (v ∷ args)) (I.Builtin which (suc (length (map code_expr (exprs es)))) ∷ []) (λ args v a k temps s n h. OfThings.builtin_at setting image r is a which (suc (length (map code_expr (exprs es)))) (v ∷ args) k temps s (ap suc n) h))
  part_layer (TypedPart-F.«TypedPart::Cell» o f goes_on) =
      takes_part (TypedPart-F.«TypedPart::Cell» o f goes_on) _ _ (λ v st. refl) refl
      (OfPlaces.cell_part_at setting image r f goes_on)
  part_layer (TypedPart-F.Parent o f goes_on) =
      takes_part (TypedPart-F.Parent o f goes_on) _ _ (λ v st. refl) refl
      (OfThings.parent_at (site_of setting) image r f goes_on)
  part_layer (TypedPart-F.Children o f goes_on) =
      takes_part (TypedPart-F.Children o f goes_on) _ _ (λ v st. refl) refl
      (OfThings.children_at (site_of setting) image r o f goes_on)

  place_layer : (y : PlaceLayer) → OfPlace (place_in y)
  place_layer (TypedPlace-F.«TypedPlace::Local» x) = is_place (TypedPlace-F.«TypedPlace::Local» x) (λ a k temps st post. post refl refl)
  place_layer (TypedPlace-F.«TypedPlace::Static» c n) = is_place (TypedPlace-F.«TypedPlace::Static» c n) (λ a k temps st post. post refl refl)
  place_layer (TypedPlace-F.«TypedPlace::Field» p c n) =
      is_place (TypedPlace-F.«TypedPlace::Field» p.0 c n) (λ a k temps st post. p.1 a k temps st
      (weaken _ _ (Sim.Stopped (site_of setting) image r a) (run_expr p.0 st) (λ v s h. h refl refl) (bound _ (Sim.Stopped (site_of setting) image r a) (run_expr p.0 st) (λ v s. Gives (FieldAt v c n) s) post)))
  place_layer (TypedPlace-F.«TypedPlace::Cell» p o n g) =
      is_place (TypedPlace-F.«TypedPlace::Cell» p.0 o n g) (λ a k temps st post. p.1 a k temps st
      (weaken _ _ (Sim.Stopped (site_of setting) image r a) (run_expr p.0 st) (λ v s h. h refl refl) (bound _ (Sim.Stopped (site_of setting) image r a) (run_expr p.0 st) (λ v s. Gives (CellAt v o n g) s) post)))
  place_layer (TypedPlace-F.«TypedPlace::Index» p q) =
      is_place (TypedPlace-F.«TypedPlace::Index» p.0 q.0) (λ a k temps st post.
      Sim.again_at (site_of setting) image r a (code_expr p.0) (code_expr q.0) k temps st
      (p.1 a (code_expr q.0 ++ k) temps st
      (weaken _ _ (Sim.Stopped (site_of setting) image r a) (run_expr p.0 st) (λ v s h. q.1 a k (v ∷ temps) s
      (weaken _ _ (Sim.Stopped (site_of setting) image r a) (run_expr q.0 s) (λ x s1 g. g refl refl) (bound _ (Sim.Stopped (site_of setting) image r a) (run_expr q.0 s) (λ x s1. Gives (ItemAt v x) s1) h)))
      (bound _ (Sim.Stopped (site_of setting) image r a) (run_expr p.0 st) (λ v s. bind (run_expr q.0 s) (λ x s1. Gives (ItemAt v x) s1)) post))))

  item_layer : (y : ItemLayer) → OfItem (item_in y)
  item_layer y =
      subst (λ f. OfLists.PutsEntry (site_of setting) image r f (code_item (item_in y))) (sym (run_rolled_item z)) (subst (λ c. OfLists.PutsEntry (site_of setting) image r (E.item_step setting again names (runs_item z)) c) (sym (code_rolled_item z))
      (OfLists.entry_at (site_of setting) image r (run_expr y.key.0) (run_expr y.value.0) (code_expr y.key.0) (code_expr y.value.0) y.key.1 y.value.1))
    where
      z : TypedItem-F TypedBind TypedExpr TypedNew TypedPart TypedPlace TypedItem TypedOperand TypedPair
      z = record { key = y.key.0; value = y.value.0 }

  operand_layer : (y : OperandLayer) → OfOperand (operand_in y)
  operand_layer y =
      Sim.takes_same (site_of setting) image r (run_operand (operand_in y)) (operated y.left y.op y.right (run_expr y.value.0)) (code_operand (operand_in y)) (Code.operator_code y.left y.op y.right (code_expr y.value.0))
      (λ v st. ap (λ g. g v st) (run_rolled_operand z)) (code_rolled_operand z)
      (OfValues.operand_at (site_of setting) image r y.left y.op y.right (run_expr y.value.0) (code_expr y.value.0) y.value.1)
    where
      z : TypedOperand-F TypedBind TypedExpr TypedNew TypedPart TypedPlace TypedItem TypedOperand TypedPair
      z = record { left = y.left; op = y.op; right = y.right; value = y.value.0 }

  pair_layer : (y : PairLayer) → OfPair (pair_in y)
  pair_layer y = (
    ap (λ p. p.0) runs ∙ sym (ap (λ p. p.0) codes),
    Sim.puts_same (site_of setting) image r _ (run_expr y.value.0) _ (code_expr y.value.0) (λ st. ap (λ p. p.1 st) runs) (ap (λ p. p.1) codes) y.value.1,
  ) where
    z : TypedPair-F TypedBind TypedExpr TypedNew TypedPart TypedPlace TypedItem TypedOperand TypedPair
    z = record { field = y.field; value = y.value.0 }

    runs : run_pair (roll-TypedPair z) ≡ (y.field, run_expr y.value.0)
    runs = run_rolled_pair z

    codes : code_pair (roll-TypedPair z) ≡ (y.field, code_expr y.value.0)
    codes = code_rolled_pair z

  -- a bind is of one kind in both, and its code puts its value
  bind_of : (z : TypedBind-F TypedBind TypedExpr TypedNew TypedPart TypedPlace TypedItem TypedOperand TypedPair) (kind : BindKind) (f : Run) (is : Instrs) → Puts f is → E.bind_step setting again names (runs_bind z) ≡ (kind, f) → Code.bind_step (codes_bind z) ≡ (kind, is) → OfBind (roll-TypedBind z)
  bind_of z kind f is puts e h = (
    ap (λ b. b.0) runs ∙ sym (ap (λ b. b.0) codes),
    Sim.puts_same (site_of setting) image r _ f _ is (λ st. ap (λ b. b.1 st) runs) (ap (λ b. b.1) codes) puts,
  ) where
    runs : run_bind (roll-TypedBind z) ≡ (kind, f)
    runs = run_rolled_bind z ∙ e

    codes : code_bind (roll-TypedBind z) ≡ (kind, is)
    codes = code_rolled_bind z ∙ h

  bind_layer : (y : BindLayer) → OfBind (bind_in y)
  bind_layer (TypedBind-F.One p) = bind_of (TypedBind-F.One p.0) One (run_expr p.0) (code_expr p.0) p.1 refl refl
  bind_layer (TypedBind-F.Many how p) =
      bind_of (TypedBind-F.Many how p.0) (Many how) (λ st. bind (run_expr p.0 st) seen) (code_expr p.0 ++ I.Seen ∷ []) (Sim.puts_then (site_of setting) image r (run_expr p.0) seen (code_expr p.0) (I.Seen ∷ []) p.1 (OfQueries.seen_at (site_of setting) image r)) refl refl

  -- ---- every expression

  pub expr_at : (e : TypedExpr) → Puts (E.value_of setting again names e) (Code.expr_code setting.program e)
  expr_at =
      ind-TypedExpr OfBind OfExpr OfNew OfPart OfPlace OfItem OfOperand OfPair
      (λ x y is. subst (λ z. OfBind (roll-TypedBind z)) is (bind_layer y))
      (λ x y is. subst (λ z. OfExpr (roll-TypedExpr z)) is (expr_layer y))
      (λ x y is. subst (λ z. OfNew (roll-TypedNew z)) is (new_layer y))
      (λ x y is. subst (λ z. OfPart (roll-TypedPart z)) is (part_layer y))
      (λ x y is. subst (λ z. OfPlace (roll-TypedPlace z)) is (place_layer y))
      (λ x y is. subst (λ z. OfItem (roll-TypedItem z)) is (item_layer y))
      (λ x y is. subst (λ z. OfOperand (roll-TypedOperand z)) is (operand_layer y))
      (λ x y is. subst (λ z. OfPair (roll-TypedPair z)) is (pair_layer y))
