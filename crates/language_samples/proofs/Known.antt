-- Trees by hand, each with what it does: parts first, as the code that it stands for.
use Rattle.std.proofs.Common.{◌≡◌, ℕ, Bool, true, false, List, [], ◌∷◌, map, pos, refl, ◌∙◌}
use Rattle.apex_rows.specs.declared.query.Query.{Query}
use Rattle.builtin_table.specs.declared.exception.ExceptionClass.{ExceptionClass}
use Rattle.builtin_table.specs.declared.method.Builtin.{Builtin as Which}
use Rattle.typed_program.specs.declared.expr.Arithmetic.TheVariants.{Plus, Times, Over}
use Rattle.typed_program.specs.declared.expr.Assignment.{Assignment}
use Rattle.typed_program.specs.declared.expr.CollectionKind.{CollectionKind}
use Rattle.typed_program.specs.declared.expr.CollectionKind.TheVariants as Kinds
use Rattle.typed_program.specs.declared.expr.Constant.{Constant}
use Rattle.typed_program.specs.declared.expr.Constant.TheVariants as Is
use Rattle.typed_program.specs.declared.expr.Constructor.{Constructor}
use Rattle.typed_program.specs.declared.expr.Conversion.{Conversion}
use Rattle.typed_program.specs.declared.expr.Conversion.TheVariants.{Same, ToRecord}
use Rattle.typed_program.specs.declared.expr.Number.{Number}
use Rattle.typed_program.specs.declared.expr.Number.TheVariants.{Integer}
use Rattle.typed_program.specs.declared.expr.StepKind.{StepKind}
use Rattle.typed_program.specs.declared.expr.TriggerVariable.{TriggerVariable}
use Rattle.typed_program.specs.declared.expr.TypedOp.{TypedOp}
use Rattle.typed_program.specs.declared.expr.TypedOp.TheVariants as Op
use Rattle.typed_program.specs.declared.expr.TypedBind.{TypedBind}
use Rattle.typed_program.specs.declared.expr.TypedExpr.{TypedExpr}
use Rattle.typed_program.specs.declared.expr.TypedItem.{TypedItem}
use Rattle.typed_program.specs.declared.expr.TypedNew.{TypedNew}
use Rattle.typed_program.specs.declared.expr.TypedOperand.{TypedOperand}
use Rattle.typed_program.specs.declared.expr.TypedPair.{TypedPair}
use Rattle.typed_program.specs.declared.expr.TypedPart.{TypedPart}
use Rattle.typed_program.specs.declared.expr.TypedPlace.{TypedPlace}
use Rattle.typed_program.specs.declared.expr.TypedBind.TheOpen.{TypedBind-F, TypedExpr-F, TypedNew-F, TypedPart-F, TypedPlace-F}
use Rattle.typed_program.specs.declared.expr.TypedBind.TheViews.{roll-TypedBind, roll-TypedExpr, roll-TypedNew, roll-TypedPart, roll-TypedPlace, roll-TypedItem, roll-TypedOperand, roll-TypedPair}
use Rattle.typed_program.specs.declared.expr.TypedBind.TheFolds.{fold-TypedBind, fold-TypedExpr, fold-TypedNew, fold-TypedPart, fold-TypedPlace, fold-TypedItem, fold-TypedOperand, fold-TypedPair, fold-roll-TypedBind, fold-roll-TypedExpr, fold-roll-TypedNew, fold-roll-TypedPart, fold-roll-TypedPlace, fold-roll-TypedItem, fold-roll-TypedOperand, fold-roll-TypedPair}
use Rattle.std.specs.Str.{is_utf8}
use Rattle.apex_num.specs.declared.cell.Cell.TheVariants as C
use Rattle.txn_heap.specs.declared.thing.Value.TheVariants.{Plain}
use Rattle.save_meaning.specs.Results.{Gives}
use Rattle.request_states.specs.Expressions as Small
use Rattle.request_states.specs.Runs.{Setting}
use Rattle.apex_meaning.specs.Expressions as E
use Rattle.apex_meaning.specs.Expressions.{Where, Entry, Given}
use Rattle.apex_meaning.specs.Meanings.{Again, Run, Behind}

abbrev pub Names : Type 0
Names = List (List ℕ)

abbrev pub expr_run : Setting → Again → Names → TypedExpr → Run
expr_run s a n = fold-TypedExpr Given Run Run Behind Where Entry Behind (ℕ × Run) (E.bind_step s a n) (E.expr_step s a n) (E.new_step s a) (E.part_step s a) (E.place_step s a) (E.item_step s a n) (E.operand_step s a n) (E.pair_step s a n)

-- a tree, and what it does
pub record ExprOf : Type 0 where
  pub tree : TypedExpr
  pub does : Setting → Again → Names → Run
  pub is : (s : Setting) (a : Again) (n : Names) → expr_run s a n tree ≡ does s a n

abbrev pub expr_trees : List ExprOf → List TypedExpr
expr_trees ks = map (λ (k : ExprOf). k.tree) ks

abbrev pub expr_all : Setting → Again → Names → List ExprOf → List Run
expr_all s a n ks = map (λ (k : ExprOf). k.does s a n) ks

pub expr_each : (s : Setting) (a : Again) (n : Names) (ks : List ExprOf) → map (expr_run s a n) (expr_trees ks) ≡ expr_all s a n ks
expr_each s a n [] = refl
expr_each s a n (k ∷ ks) = λ i. k.is s a n i ∷ expr_each s a n ks i

abbrev pub new_run : Setting → Again → Names → TypedNew → Run
new_run s a n = fold-TypedNew Given Run Run Behind Where Entry Behind (ℕ × Run) (E.bind_step s a n) (E.expr_step s a n) (E.new_step s a) (E.part_step s a) (E.place_step s a) (E.item_step s a n) (E.operand_step s a n) (E.pair_step s a n)

-- a tree, and what it does
pub record NewOf : Type 0 where
  pub tree : TypedNew
  pub does : Setting → Again → Names → Run
  pub is : (s : Setting) (a : Again) (n : Names) → new_run s a n tree ≡ does s a n

abbrev pub new_trees : List NewOf → List TypedNew
new_trees ks = map (λ (k : NewOf). k.tree) ks

abbrev pub new_all : Setting → Again → Names → List NewOf → List Run
new_all s a n ks = map (λ (k : NewOf). k.does s a n) ks

pub new_each : (s : Setting) (a : Again) (n : Names) (ks : List NewOf) → map (new_run s a n) (new_trees ks) ≡ new_all s a n ks
new_each s a n [] = refl
new_each s a n (k ∷ ks) = λ i. k.is s a n i ∷ new_each s a n ks i

abbrev pub part_run : Setting → Again → Names → TypedPart → Behind
part_run s a n = fold-TypedPart Given Run Run Behind Where Entry Behind (ℕ × Run) (E.bind_step s a n) (E.expr_step s a n) (E.new_step s a) (E.part_step s a) (E.place_step s a) (E.item_step s a n) (E.operand_step s a n) (E.pair_step s a n)

-- a tree, and what it does
pub record PartOf : Type 0 where
  pub tree : TypedPart
  pub does : Setting → Again → Names → Behind
  pub is : (s : Setting) (a : Again) (n : Names) → part_run s a n tree ≡ does s a n

abbrev pub part_trees : List PartOf → List TypedPart
part_trees ks = map (λ (k : PartOf). k.tree) ks

abbrev pub part_all : Setting → Again → Names → List PartOf → List Behind
part_all s a n ks = map (λ (k : PartOf). k.does s a n) ks

pub part_each : (s : Setting) (a : Again) (n : Names) (ks : List PartOf) → map (part_run s a n) (part_trees ks) ≡ part_all s a n ks
part_each s a n [] = refl
part_each s a n (k ∷ ks) = λ i. k.is s a n i ∷ part_each s a n ks i

abbrev pub place_run : Setting → Again → Names → TypedPlace → Where
place_run s a n = fold-TypedPlace Given Run Run Behind Where Entry Behind (ℕ × Run) (E.bind_step s a n) (E.expr_step s a n) (E.new_step s a) (E.part_step s a) (E.place_step s a) (E.item_step s a n) (E.operand_step s a n) (E.pair_step s a n)

-- a tree, and what it does
pub record PlaceOf : Type 0 where
  pub tree : TypedPlace
  pub does : Setting → Again → Names → Where
  pub is : (s : Setting) (a : Again) (n : Names) → place_run s a n tree ≡ does s a n

abbrev pub place_trees : List PlaceOf → List TypedPlace
place_trees ks = map (λ (k : PlaceOf). k.tree) ks

abbrev pub place_all : Setting → Again → Names → List PlaceOf → List Where
place_all s a n ks = map (λ (k : PlaceOf). k.does s a n) ks

pub place_each : (s : Setting) (a : Again) (n : Names) (ks : List PlaceOf) → map (place_run s a n) (place_trees ks) ≡ place_all s a n ks
place_each s a n [] = refl
place_each s a n (k ∷ ks) = λ i. k.is s a n i ∷ place_each s a n ks i

abbrev pub item_run : Setting → Again → Names → TypedItem → Entry
item_run s a n = fold-TypedItem Given Run Run Behind Where Entry Behind (ℕ × Run) (E.bind_step s a n) (E.expr_step s a n) (E.new_step s a) (E.part_step s a) (E.place_step s a) (E.item_step s a n) (E.operand_step s a n) (E.pair_step s a n)

-- a tree, and what it does
pub record ItemOf : Type 0 where
  pub tree : TypedItem
  pub does : Setting → Again → Names → Entry
  pub is : (s : Setting) (a : Again) (n : Names) → item_run s a n tree ≡ does s a n

abbrev pub item_trees : List ItemOf → List TypedItem
item_trees ks = map (λ (k : ItemOf). k.tree) ks

abbrev pub item_all : Setting → Again → Names → List ItemOf → List Entry
item_all s a n ks = map (λ (k : ItemOf). k.does s a n) ks

pub item_each : (s : Setting) (a : Again) (n : Names) (ks : List ItemOf) → map (item_run s a n) (item_trees ks) ≡ item_all s a n ks
item_each s a n [] = refl
item_each s a n (k ∷ ks) = λ i. k.is s a n i ∷ item_each s a n ks i

abbrev pub operand_run : Setting → Again → Names → TypedOperand → Behind
operand_run s a n = fold-TypedOperand Given Run Run Behind Where Entry Behind (ℕ × Run) (E.bind_step s a n) (E.expr_step s a n) (E.new_step s a) (E.part_step s a) (E.place_step s a) (E.item_step s a n) (E.operand_step s a n) (E.pair_step s a n)

-- a tree, and what it does
pub record OperandOf : Type 0 where
  pub tree : TypedOperand
  pub does : Setting → Again → Names → Behind
  pub is : (s : Setting) (a : Again) (n : Names) → operand_run s a n tree ≡ does s a n

abbrev pub operand_trees : List OperandOf → List TypedOperand
operand_trees ks = map (λ (k : OperandOf). k.tree) ks

abbrev pub operand_all : Setting → Again → Names → List OperandOf → List Behind
operand_all s a n ks = map (λ (k : OperandOf). k.does s a n) ks

pub operand_each : (s : Setting) (a : Again) (n : Names) (ks : List OperandOf) → map (operand_run s a n) (operand_trees ks) ≡ operand_all s a n ks
operand_each s a n [] = refl
operand_each s a n (k ∷ ks) = λ i. k.is s a n i ∷ operand_each s a n ks i

abbrev pub pair_run : Setting → Again → Names → TypedPair → ℕ × Run
pair_run s a n = fold-TypedPair Given Run Run Behind Where Entry Behind (ℕ × Run) (E.bind_step s a n) (E.expr_step s a n) (E.new_step s a) (E.part_step s a) (E.place_step s a) (E.item_step s a n) (E.operand_step s a n) (E.pair_step s a n)

-- a tree, and what it does
pub record PairOf : Type 0 where
  pub tree : TypedPair
  pub does : Setting → Again → Names → ℕ × Run
  pub is : (s : Setting) (a : Again) (n : Names) → pair_run s a n tree ≡ does s a n

abbrev pub pair_trees : List PairOf → List TypedPair
pair_trees ks = map (λ (k : PairOf). k.tree) ks

abbrev pub pair_all : Setting → Again → Names → List PairOf → List (ℕ × Run)
pair_all s a n ks = map (λ (k : PairOf). k.does s a n) ks

pub pair_each : (s : Setting) (a : Again) (n : Names) (ks : List PairOf) → map (pair_run s a n) (pair_trees ks) ≡ pair_all s a n ks
pair_each s a n [] = refl
pair_each s a n (k ∷ ks) = λ i. k.is s a n i ∷ pair_each s a n ks i

abbrev pub bind_run : Setting → Again → Names → TypedBind → Given
bind_run s a n = fold-TypedBind Given Run Run Behind Where Entry Behind (ℕ × Run) (E.bind_step s a n) (E.expr_step s a n) (E.new_step s a) (E.part_step s a) (E.place_step s a) (E.item_step s a n) (E.operand_step s a n) (E.pair_step s a n)

-- a tree, and what it does
pub record BindOf : Type 0 where
  pub tree : TypedBind
  pub does : Setting → Again → Names → Given
  pub is : (s : Setting) (a : Again) (n : Names) → bind_run s a n tree ≡ does s a n

abbrev pub bind_trees : List BindOf → List TypedBind
bind_trees ks = map (λ (k : BindOf). k.tree) ks

abbrev pub bind_all : Setting → Again → Names → List BindOf → List Given
bind_all s a n ks = map (λ (k : BindOf). k.does s a n) ks

pub bind_each : (s : Setting) (a : Again) (n : Names) (ks : List BindOf) → map (bind_run s a n) (bind_trees ks) ≡ bind_all s a n ks
bind_each s a n [] = refl
bind_each s a n (k ∷ ks) = λ i. k.is s a n i ∷ bind_each s a n ks i

-- ---- operands, variables and parts

abbrev pub operand : Conversion → TypedOp → Conversion → ExprOf → OperandOf
operand left op right value = record {
  tree = roll-TypedOperand (record { left = left; op = op; right = right; value = value.tree });
  does = λ s a n. E.operand_step s a n (record { left = left; op = op; right = right; value = (value.does s a n) });
  is = λ s a n. fold-roll-TypedOperand Given Run Run Behind Where Entry Behind (ℕ × Run) (E.bind_step s a n) (E.expr_step s a n) (E.new_step s a) (E.part_step s a) (E.place_step s a) (E.item_step s a n) (E.operand_step s a n) (E.pair_step s a n) (record { left = left; op = op; right = right; value = value.tree }) ∙ (λ i. E.operand_step s a n (record { left = left; op = op; right = right; value = (value.is s a n i) }));
}

abbrev pub at_local : ℕ → PlaceOf
at_local x = record {
  tree = roll-TypedPlace (TypedPlace-F.«TypedPlace::Local» x);
  does = λ s a n. E.place_step s a (TypedPlace-F.«TypedPlace::Local» x);
  is = λ s a n. fold-roll-TypedPlace Given Run Run Behind Where Entry Behind (ℕ × Run) (E.bind_step s a n) (E.expr_step s a n) (E.new_step s a) (E.part_step s a) (E.place_step s a) (E.item_step s a n) (E.operand_step s a n) (E.pair_step s a n) (TypedPlace-F.«TypedPlace::Local» x) ∙ (λ i. E.place_step s a (TypedPlace-F.«TypedPlace::Local» x));
}

abbrev pub at_static : ℕ → ℕ → PlaceOf
at_static c m = record {
  tree = roll-TypedPlace (TypedPlace-F.«TypedPlace::Static» c m);
  does = λ s a n. E.place_step s a (TypedPlace-F.«TypedPlace::Static» c m);
  is = λ s a n. fold-roll-TypedPlace Given Run Run Behind Where Entry Behind (ℕ × Run) (E.bind_step s a n) (E.expr_step s a n) (E.new_step s a) (E.part_step s a) (E.place_step s a) (E.item_step s a n) (E.operand_step s a n) (E.pair_step s a n) (TypedPlace-F.«TypedPlace::Static» c m) ∙ (λ i. E.place_step s a (TypedPlace-F.«TypedPlace::Static» c m));
}

abbrev pub at_field : ExprOf → ℕ → ℕ → PlaceOf
at_field e c m = record {
  tree = roll-TypedPlace (TypedPlace-F.«TypedPlace::Field» e.tree c m);
  does = λ s a n. E.place_step s a (TypedPlace-F.«TypedPlace::Field» (e.does s a n) c m);
  is = λ s a n. fold-roll-TypedPlace Given Run Run Behind Where Entry Behind (ℕ × Run) (E.bind_step s a n) (E.expr_step s a n) (E.new_step s a) (E.part_step s a) (E.place_step s a) (E.item_step s a n) (E.operand_step s a n) (E.pair_step s a n) (TypedPlace-F.«TypedPlace::Field» e.tree c m) ∙ (λ i. E.place_step s a (TypedPlace-F.«TypedPlace::Field» (e.is s a n i) c m));
}

abbrev pub at_cell : ExprOf → ℕ → ℕ → PlaceOf
at_cell e object m = record {
  tree = roll-TypedPlace (TypedPlace-F.«TypedPlace::Cell» e.tree object m false);
  does = λ s a n. E.place_step s a (TypedPlace-F.«TypedPlace::Cell» (e.does s a n) object m false);
  is = λ s a n. fold-roll-TypedPlace Given Run Run Behind Where Entry Behind (ℕ × Run) (E.bind_step s a n) (E.expr_step s a n) (E.new_step s a) (E.part_step s a) (E.place_step s a) (E.item_step s a n) (E.operand_step s a n) (E.pair_step s a n) (TypedPlace-F.«TypedPlace::Cell» e.tree object m false) ∙ (λ i. E.place_step s a (TypedPlace-F.«TypedPlace::Cell» (e.is s a n i) object m false));
}

abbrev pub at_item : ExprOf → ExprOf → PlaceOf
at_item e at = record {
  tree = roll-TypedPlace (TypedPlace-F.«TypedPlace::Index» e.tree at.tree);
  does = λ s a n. E.place_step s a (TypedPlace-F.«TypedPlace::Index» (e.does s a n) (at.does s a n));
  is = λ s a n. fold-roll-TypedPlace Given Run Run Behind Where Entry Behind (ℕ × Run) (E.bind_step s a n) (E.expr_step s a n) (E.new_step s a) (E.part_step s a) (E.place_step s a) (E.item_step s a n) (E.operand_step s a n) (E.pair_step s a n) (TypedPlace-F.«TypedPlace::Index» e.tree at.tree) ∙ (λ i. E.place_step s a (TypedPlace-F.«TypedPlace::Index» (e.is s a n i) (at.is s a n i)));
}

abbrev pub field_part : ℕ → ℕ → PartOf
field_part c m = record {
  tree = roll-TypedPart (TypedPart-F.«TypedPart::Field» c m);
  does = λ s a n. E.part_step s a (TypedPart-F.«TypedPart::Field» c m);
  is = λ s a n. fold-roll-TypedPart Given Run Run Behind Where Entry Behind (ℕ × Run) (E.bind_step s a n) (E.expr_step s a n) (E.new_step s a) (E.part_step s a) (E.place_step s a) (E.item_step s a n) (E.operand_step s a n) (E.pair_step s a n) (TypedPart-F.«TypedPart::Field» c m) ∙ (λ i. E.part_step s a (TypedPart-F.«TypedPart::Field» c m));
}

-- a cell, with a mark where a null in front is one
abbrev pub cell_part : ℕ → ℕ → Bool → PartOf
cell_part object m goes_on = record {
  tree = roll-TypedPart (TypedPart-F.«TypedPart::Cell» object m goes_on);
  does = λ s a n. E.part_step s a (TypedPart-F.«TypedPart::Cell» object m goes_on);
  is = λ s a n. fold-roll-TypedPart Given Run Run Behind Where Entry Behind (ℕ × Run) (E.bind_step s a n) (E.expr_step s a n) (E.new_step s a) (E.part_step s a) (E.place_step s a) (E.item_step s a n) (E.operand_step s a n) (E.pair_step s a n) (TypedPart-F.«TypedPart::Cell» object m goes_on) ∙ (λ i. E.part_step s a (TypedPart-F.«TypedPart::Cell» object m goes_on));
}

-- what a relation leads to, with such a mark
abbrev pub parent_part : ℕ → ℕ → Bool → PartOf
parent_part object m goes_on = record {
  tree = roll-TypedPart (TypedPart-F.Parent object m goes_on);
  does = λ s a n. E.part_step s a (TypedPart-F.Parent object m goes_on);
  is = λ s a n. fold-roll-TypedPart Given Run Run Behind Where Entry Behind (ℕ × Run) (E.bind_step s a n) (E.expr_step s a n) (E.new_step s a) (E.part_step s a) (E.place_step s a) (E.item_step s a n) (E.operand_step s a n) (E.pair_step s a n) (TypedPart-F.Parent object m goes_on) ∙ (λ i. E.part_step s a (TypedPart-F.Parent object m goes_on));
}

-- the records of an object under one, by the field that leads to it
abbrev pub children_part : ℕ → ℕ → Bool → PartOf
children_part object m goes_on = record {
  tree = roll-TypedPart (TypedPart-F.Children object m goes_on);
  does = λ s a n. E.part_step s a (TypedPart-F.Children object m goes_on);
  is = λ s a n. fold-roll-TypedPart Given Run Run Behind Where Entry Behind (ℕ × Run) (E.bind_step s a n) (E.expr_step s a n) (E.new_step s a) (E.part_step s a) (E.place_step s a) (E.item_step s a n) (E.operand_step s a n) (E.pair_step s a n) (TypedPart-F.Children object m goes_on) ∙ (λ i. E.part_step s a (TypedPart-F.Children object m goes_on));
}

abbrev pub item_part : ExprOf → PartOf
item_part e = record {
  tree = roll-TypedPart (TypedPart-F.«TypedPart::Index» e.tree);
  does = λ s a n. E.part_step s a (TypedPart-F.«TypedPart::Index» (e.does s a n));
  is = λ s a n. fold-roll-TypedPart Given Run Run Behind Where Entry Behind (ℕ × Run) (E.bind_step s a n) (E.expr_step s a n) (E.new_step s a) (E.part_step s a) (E.place_step s a) (E.item_step s a n) (E.operand_step s a n) (E.pair_step s a n) (TypedPart-F.«TypedPart::Index» e.tree) ∙ (λ i. E.part_step s a (TypedPart-F.«TypedPart::Index» (e.is s a n i)));
}

abbrev pub call_part : ℕ → ℕ → Bool → List ExprOf → PartOf
call_part c m virtual es = record {
  tree = roll-TypedPart (TypedPart-F.Call c m virtual (expr_trees es));
  does = λ s a n. E.part_step s a (TypedPart-F.Call c m virtual (expr_all s a n es));
  is = λ s a n. fold-roll-TypedPart Given Run Run Behind Where Entry Behind (ℕ × Run) (E.bind_step s a n) (E.expr_step s a n) (E.new_step s a) (E.part_step s a) (E.place_step s a) (E.item_step s a n) (E.operand_step s a n) (E.pair_step s a n) (TypedPart-F.Call c m virtual (expr_trees es)) ∙ (λ i. E.part_step s a (TypedPart-F.Call c m virtual (expr_each s a n es i)));
}

abbrev pub builtin_part : Which → List ExprOf → PartOf
builtin_part which es = record {
  tree = roll-TypedPart (TypedPart-F.Builtin which (expr_trees es));
  does = λ s a n. E.part_step s a (TypedPart-F.Builtin which (expr_all s a n es));
  is = λ s a n. fold-roll-TypedPart Given Run Run Behind Where Entry Behind (ℕ × Run) (E.bind_step s a n) (E.expr_step s a n) (E.new_step s a) (E.part_step s a) (E.place_step s a) (E.item_step s a n) (E.operand_step s a n) (E.pair_step s a n) (TypedPart-F.Builtin which (expr_trees es)) ∙ (λ i. E.part_step s a (TypedPart-F.Builtin which (expr_each s a n es i)));
}

abbrev pub entry : ExprOf → ExprOf → ItemOf
entry key value = record {
  tree = roll-TypedItem (record { key = key.tree; value = value.tree });
  does = λ s a n. E.item_step s a n (record { key = (key.does s a n); value = (value.does s a n) });
  is = λ s a n. fold-roll-TypedItem Given Run Run Behind Where Entry Behind (ℕ × Run) (E.bind_step s a n) (E.expr_step s a n) (E.new_step s a) (E.part_step s a) (E.place_step s a) (E.item_step s a n) (E.operand_step s a n) (E.pair_step s a n) (record { key = key.tree; value = value.tree }) ∙ (λ i. E.item_step s a n (record { key = (key.is s a n i); value = (value.is s a n i) }));
}

abbrev pub pair : ℕ → ExprOf → PairOf
pair m e = record {
  tree = roll-TypedPair (record { field = m; value = e.tree });
  does = λ s a n. E.pair_step s a n (record { field = m; value = (e.does s a n) });
  is = λ s a n. fold-roll-TypedPair Given Run Run Behind Where Entry Behind (ℕ × Run) (E.bind_step s a n) (E.expr_step s a n) (E.new_step s a) (E.part_step s a) (E.place_step s a) (E.item_step s a n) (E.operand_step s a n) (E.pair_step s a n) (record { field = m; value = e.tree }) ∙ (λ i. E.pair_step s a n (record { field = m; value = (e.is s a n i) }));
}

-- ---- what `new` makes

abbrev pub instance : ℕ → Constructor → List ExprOf → NewOf
instance c k es = record {
  tree = roll-TypedNew (TypedNew-F.Instance c k (expr_trees es));
  does = λ s a n. E.new_step s a (TypedNew-F.Instance c k (expr_all s a n es));
  is = λ s a n. fold-roll-TypedNew Given Run Run Behind Where Entry Behind (ℕ × Run) (E.bind_step s a n) (E.expr_step s a n) (E.new_step s a) (E.part_step s a) (E.place_step s a) (E.item_step s a n) (E.operand_step s a n) (E.pair_step s a n) (TypedNew-F.Instance c k (expr_trees es)) ∙ (λ i. E.new_step s a (TypedNew-F.Instance c k (expr_each s a n es i)));
}

abbrev pub exception : ExceptionClass → List ExprOf → NewOf
exception c es = record {
  tree = roll-TypedNew (TypedNew-F.Exception c (expr_trees es));
  does = λ s a n. E.new_step s a (TypedNew-F.Exception c (expr_all s a n es));
  is = λ s a n. fold-roll-TypedNew Given Run Run Behind Where Entry Behind (ℕ × Run) (E.bind_step s a n) (E.expr_step s a n) (E.new_step s a) (E.part_step s a) (E.place_step s a) (E.item_step s a n) (E.operand_step s a n) (E.pair_step s a n) (TypedNew-F.Exception c (expr_trees es)) ∙ (λ i. E.new_step s a (TypedNew-F.Exception c (expr_each s a n es i)));
}

abbrev pub a_record : ℕ → List PairOf → NewOf
a_record object ps = record {
  tree = roll-TypedNew (TypedNew-F.Record object (pair_trees ps));
  does = λ s a n. E.new_step s a (TypedNew-F.Record object (pair_all s a n ps));
  is = λ s a n. fold-roll-TypedNew Given Run Run Behind Where Entry Behind (ℕ × Run) (E.bind_step s a n) (E.expr_step s a n) (E.new_step s a) (E.part_step s a) (E.place_step s a) (E.item_step s a n) (E.operand_step s a n) (E.pair_step s a n) (TypedNew-F.Record object (pair_trees ps)) ∙ (λ i. E.new_step s a (TypedNew-F.Record object (pair_each s a n ps i)));
}

abbrev pub collection : CollectionKind → List ExprOf → NewOf
collection kind es = record {
  tree = roll-TypedNew (TypedNew-F.Collection kind (expr_trees es));
  does = λ s a n. E.new_step s a (TypedNew-F.Collection kind (expr_all s a n es));
  is = λ s a n. fold-roll-TypedNew Given Run Run Behind Where Entry Behind (ℕ × Run) (E.bind_step s a n) (E.expr_step s a n) (E.new_step s a) (E.part_step s a) (E.place_step s a) (E.item_step s a n) (E.operand_step s a n) (E.pair_step s a n) (TypedNew-F.Collection kind (expr_trees es)) ∙ (λ i. E.new_step s a (TypedNew-F.Collection kind (expr_each s a n es i)));
}

-- a map of the records of a list, by their Ids
abbrev pub by_ids : ExprOf → NewOf
by_ids e = record {
  tree = roll-TypedNew (TypedNew-F.ById e.tree);
  does = λ s a n. E.new_step s a (TypedNew-F.ById (e.does s a n));
  is = λ s a n. fold-roll-TypedNew Given Run Run Behind Where Entry Behind (ℕ × Run) (E.bind_step s a n) (E.expr_step s a n) (E.new_step s a) (E.part_step s a) (E.place_step s a) (E.item_step s a n) (E.operand_step s a n) (E.pair_step s a n) (TypedNew-F.ById e.tree) ∙ (λ i. E.new_step s a (TypedNew-F.ById (e.is s a n i)));
}

-- ---- binds

abbrev pub one : ExprOf → BindOf
one e = record {
  tree = roll-TypedBind (TypedBind-F.One e.tree);
  does = λ s a n. E.bind_step s a n (TypedBind-F.One (e.does s a n));
  is = λ s a n. fold-roll-TypedBind Given Run Run Behind Where Entry Behind (ℕ × Run) (E.bind_step s a n) (E.expr_step s a n) (E.new_step s a) (E.part_step s a) (E.place_step s a) (E.item_step s a n) (E.operand_step s a n) (E.pair_step s a n) (TypedBind-F.One e.tree) ∙ (λ i. E.bind_step s a n (TypedBind-F.One (e.is s a n i)));
}

abbrev pub many : Conversion → ExprOf → BindOf
many how e = record {
  tree = roll-TypedBind (TypedBind-F.Many how e.tree);
  does = λ s a n. E.bind_step s a n (TypedBind-F.Many how (e.does s a n));
  is = λ s a n. fold-roll-TypedBind Given Run Run Behind Where Entry Behind (ℕ × Run) (E.bind_step s a n) (E.expr_step s a n) (E.new_step s a) (E.part_step s a) (E.place_step s a) (E.item_step s a n) (E.operand_step s a n) (E.pair_step s a n) (TypedBind-F.Many how e.tree) ∙ (λ i. E.bind_step s a n (TypedBind-F.Many how (e.is s a n i)));
}

-- ---- expressions

abbrev pub constant : Constant → ExprOf
constant k = record {
  tree = roll-TypedExpr (TypedExpr-F.Constant k);
  does = λ s a n. E.expr_step s a n (TypedExpr-F.Constant k);
  is = λ s a n. fold-roll-TypedExpr Given Run Run Behind Where Entry Behind (ℕ × Run) (E.bind_step s a n) (E.expr_step s a n) (E.new_step s a) (E.part_step s a) (E.place_step s a) (E.item_step s a n) (E.operand_step s a n) (E.pair_step s a n) (TypedExpr-F.Constant k) ∙ (λ i. E.expr_step s a n (TypedExpr-F.Constant k));
}

abbrev pub local : ℕ → ExprOf
local x = record {
  tree = roll-TypedExpr (TypedExpr-F.«TypedExpr::Local» x);
  does = λ s a n. E.expr_step s a n (TypedExpr-F.«TypedExpr::Local» x);
  is = λ s a n. fold-roll-TypedExpr Given Run Run Behind Where Entry Behind (ℕ × Run) (E.bind_step s a n) (E.expr_step s a n) (E.new_step s a) (E.part_step s a) (E.place_step s a) (E.item_step s a n) (E.operand_step s a n) (E.pair_step s a n) (TypedExpr-F.«TypedExpr::Local» x) ∙ (λ i. E.expr_step s a n (TypedExpr-F.«TypedExpr::Local» x));
}

abbrev pub static : ℕ → ℕ → ExprOf
static c m = record {
  tree = roll-TypedExpr (TypedExpr-F.«TypedExpr::Static» c m);
  does = λ s a n. E.expr_step s a n (TypedExpr-F.«TypedExpr::Static» c m);
  is = λ s a n. fold-roll-TypedExpr Given Run Run Behind Where Entry Behind (ℕ × Run) (E.bind_step s a n) (E.expr_step s a n) (E.new_step s a) (E.part_step s a) (E.place_step s a) (E.item_step s a n) (E.operand_step s a n) (E.pair_step s a n) (TypedExpr-F.«TypedExpr::Static» c m) ∙ (λ i. E.expr_step s a n (TypedExpr-F.«TypedExpr::Static» c m));
}

abbrev pub of_trigger : TriggerVariable → ExprOf
of_trigger v = record {
  tree = roll-TypedExpr (TypedExpr-F.TriggerVariable v);
  does = λ s a n. E.expr_step s a n (TypedExpr-F.TriggerVariable v);
  is = λ s a n. fold-roll-TypedExpr Given Run Run Behind Where Entry Behind (ℕ × Run) (E.bind_step s a n) (E.expr_step s a n) (E.new_step s a) (E.part_step s a) (E.place_step s a) (E.item_step s a n) (E.operand_step s a n) (E.pair_step s a n) (TypedExpr-F.TriggerVariable v) ∙ (λ i. E.expr_step s a n (TypedExpr-F.TriggerVariable v));
}

abbrev pub itself : ExprOf
itself = record {
  tree = roll-TypedExpr TypedExpr-F.This;
  does = λ s a n. E.expr_step s a n TypedExpr-F.This;
  is = λ s a n. fold-roll-TypedExpr Given Run Run Behind Where Entry Behind (ℕ × Run) (E.bind_step s a n) (E.expr_step s a n) (E.new_step s a) (E.part_step s a) (E.place_step s a) (E.item_step s a n) (E.operand_step s a n) (E.pair_step s a n) TypedExpr-F.This ∙ (λ i. E.expr_step s a n TypedExpr-F.This);
}

abbrev pub path : ExprOf → List PartOf → ExprOf
path e ps = record {
  tree = roll-TypedExpr (TypedExpr-F.Postfix e.tree (part_trees ps));
  does = λ s a n. E.expr_step s a n (TypedExpr-F.Postfix (e.does s a n) (part_all s a n ps));
  is = λ s a n. fold-roll-TypedExpr Given Run Run Behind Where Entry Behind (ℕ × Run) (E.bind_step s a n) (E.expr_step s a n) (E.new_step s a) (E.part_step s a) (E.place_step s a) (E.item_step s a n) (E.operand_step s a n) (E.pair_step s a n) (TypedExpr-F.Postfix e.tree (part_trees ps)) ∙ (λ i. E.expr_step s a n (TypedExpr-F.Postfix (e.is s a n i) (part_each s a n ps i)));
}

abbrev pub chain : ExprOf → List OperandOf → ExprOf
chain e os = record {
  tree = roll-TypedExpr (TypedExpr-F.Chain e.tree (operand_trees os));
  does = λ s a n. E.expr_step s a n (TypedExpr-F.Chain (e.does s a n) (operand_all s a n os));
  is = λ s a n. fold-roll-TypedExpr Given Run Run Behind Where Entry Behind (ℕ × Run) (E.bind_step s a n) (E.expr_step s a n) (E.new_step s a) (E.part_step s a) (E.place_step s a) (E.item_step s a n) (E.operand_step s a n) (E.pair_step s a n) (TypedExpr-F.Chain e.tree (operand_trees os)) ∙ (λ i. E.expr_step s a n (TypedExpr-F.Chain (e.is s a n i) (operand_each s a n os i)));
}

abbrev pub convert : Conversion → ExprOf → ExprOf
convert how e = record {
  tree = roll-TypedExpr (TypedExpr-F.Convert how e.tree);
  does = λ s a n. E.expr_step s a n (TypedExpr-F.Convert how (e.does s a n));
  is = λ s a n. fold-roll-TypedExpr Given Run Run Behind Where Entry Behind (ℕ × Run) (E.bind_step s a n) (E.expr_step s a n) (E.new_step s a) (E.part_step s a) (E.place_step s a) (E.item_step s a n) (E.operand_step s a n) (E.pair_step s a n) (TypedExpr-F.Convert how e.tree) ∙ (λ i. E.expr_step s a n (TypedExpr-F.Convert how (e.is s a n i)));
}

abbrev pub negation : ExprOf → ExprOf
negation e = record {
  tree = roll-TypedExpr (TypedExpr-F.Not e.tree);
  does = λ s a n. E.expr_step s a n (TypedExpr-F.Not (e.does s a n));
  is = λ s a n. fold-roll-TypedExpr Given Run Run Behind Where Entry Behind (ℕ × Run) (E.bind_step s a n) (E.expr_step s a n) (E.new_step s a) (E.part_step s a) (E.place_step s a) (E.item_step s a n) (E.operand_step s a n) (E.pair_step s a n) (TypedExpr-F.Not e.tree) ∙ (λ i. E.expr_step s a n (TypedExpr-F.Not (e.is s a n i)));
}

abbrev pub minus : Number → ExprOf → ExprOf
minus m e = record {
  tree = roll-TypedExpr (TypedExpr-F.Minus m e.tree);
  does = λ s a n. E.expr_step s a n (TypedExpr-F.Minus m (e.does s a n));
  is = λ s a n. fold-roll-TypedExpr Given Run Run Behind Where Entry Behind (ℕ × Run) (E.bind_step s a n) (E.expr_step s a n) (E.new_step s a) (E.part_step s a) (E.place_step s a) (E.item_step s a n) (E.operand_step s a n) (E.pair_step s a n) (TypedExpr-F.Minus m e.tree) ∙ (λ i. E.expr_step s a n (TypedExpr-F.Minus m (e.is s a n i)));
}

abbrev pub conditional : ExprOf → ExprOf → ExprOf → ExprOf
conditional c x y = record {
  tree = roll-TypedExpr (TypedExpr-F.Conditional c.tree x.tree y.tree);
  does = λ s a n. E.expr_step s a n (TypedExpr-F.Conditional (c.does s a n) (x.does s a n) (y.does s a n));
  is = λ s a n. fold-roll-TypedExpr Given Run Run Behind Where Entry Behind (ℕ × Run) (E.bind_step s a n) (E.expr_step s a n) (E.new_step s a) (E.part_step s a) (E.place_step s a) (E.item_step s a n) (E.operand_step s a n) (E.pair_step s a n) (TypedExpr-F.Conditional c.tree x.tree y.tree) ∙ (λ i. E.expr_step s a n (TypedExpr-F.Conditional (c.is s a n i) (x.is s a n i) (y.is s a n i)));
}

abbrev pub assign : PlaceOf → ExprOf → ExprOf
assign t e = record {
  tree = roll-TypedExpr (TypedExpr-F.Assign t.tree e.tree);
  does = λ s a n. E.expr_step s a n (TypedExpr-F.Assign (t.does s a n) (e.does s a n));
  is = λ s a n. fold-roll-TypedExpr Given Run Run Behind Where Entry Behind (ℕ × Run) (E.bind_step s a n) (E.expr_step s a n) (E.new_step s a) (E.part_step s a) (E.place_step s a) (E.item_step s a n) (E.operand_step s a n) (E.pair_step s a n) (TypedExpr-F.Assign t.tree e.tree) ∙ (λ i. E.expr_step s a n (TypedExpr-F.Assign (t.is s a n i) (e.is s a n i)));
}

abbrev pub assign_with : PlaceOf → Assignment → ExprOf → ExprOf
assign_with t how e = record {
  tree = roll-TypedExpr (TypedExpr-F.AssignWith t.tree how e.tree);
  does = λ s a n. E.expr_step s a n (TypedExpr-F.AssignWith (t.does s a n) how (e.does s a n));
  is = λ s a n. fold-roll-TypedExpr Given Run Run Behind Where Entry Behind (ℕ × Run) (E.bind_step s a n) (E.expr_step s a n) (E.new_step s a) (E.part_step s a) (E.place_step s a) (E.item_step s a n) (E.operand_step s a n) (E.pair_step s a n) (TypedExpr-F.AssignWith t.tree how e.tree) ∙ (λ i. E.expr_step s a n (TypedExpr-F.AssignWith (t.is s a n i) how (e.is s a n i)));
}

abbrev pub stepped : StepKind → Number → PlaceOf → ExprOf
stepped kind m t = record {
  tree = roll-TypedExpr (TypedExpr-F.Step kind m t.tree);
  does = λ s a n. E.expr_step s a n (TypedExpr-F.Step kind m (t.does s a n));
  is = λ s a n. fold-roll-TypedExpr Given Run Run Behind Where Entry Behind (ℕ × Run) (E.bind_step s a n) (E.expr_step s a n) (E.new_step s a) (E.part_step s a) (E.place_step s a) (E.item_step s a n) (E.operand_step s a n) (E.pair_step s a n) (TypedExpr-F.Step kind m t.tree) ∙ (λ i. E.expr_step s a n (TypedExpr-F.Step kind m (t.is s a n i)));
}

abbrev pub cast : ℕ → ExprOf → ExprOf
cast c e = record {
  tree = roll-TypedExpr (TypedExpr-F.Cast c e.tree);
  does = λ s a n. E.expr_step s a n (TypedExpr-F.Cast c (e.does s a n));
  is = λ s a n. fold-roll-TypedExpr Given Run Run Behind Where Entry Behind (ℕ × Run) (E.bind_step s a n) (E.expr_step s a n) (E.new_step s a) (E.part_step s a) (E.place_step s a) (E.item_step s a n) (E.operand_step s a n) (E.pair_step s a n) (TypedExpr-F.Cast c e.tree) ∙ (λ i. E.expr_step s a n (TypedExpr-F.Cast c (e.is s a n i)));
}

abbrev pub made : NewOf → ExprOf
made x = record {
  tree = roll-TypedExpr (TypedExpr-F.New x.tree);
  does = λ s a n. E.expr_step s a n (TypedExpr-F.New (x.does s a n));
  is = λ s a n. fold-roll-TypedExpr Given Run Run Behind Where Entry Behind (ℕ × Run) (E.bind_step s a n) (E.expr_step s a n) (E.new_step s a) (E.part_step s a) (E.place_step s a) (E.item_step s a n) (E.operand_step s a n) (E.pair_step s a n) (TypedExpr-F.New x.tree) ∙ (λ i. E.expr_step s a n (TypedExpr-F.New (x.is s a n i)));
}

abbrev pub call : ℕ → ℕ → List ExprOf → ExprOf
call c m es = record {
  tree = roll-TypedExpr (TypedExpr-F.CallStatic c m (expr_trees es));
  does = λ s a n. E.expr_step s a n (TypedExpr-F.CallStatic c m (expr_all s a n es));
  is = λ s a n. fold-roll-TypedExpr Given Run Run Behind Where Entry Behind (ℕ × Run) (E.bind_step s a n) (E.expr_step s a n) (E.new_step s a) (E.part_step s a) (E.place_step s a) (E.item_step s a n) (E.operand_step s a n) (E.pair_step s a n) (TypedExpr-F.CallStatic c m (expr_trees es)) ∙ (λ i. E.expr_step s a n (TypedExpr-F.CallStatic c m (expr_each s a n es i)));
}

abbrev pub builtin : Which → List ExprOf → ExprOf
builtin which es = record {
  tree = roll-TypedExpr (TypedExpr-F.CallBuiltin which (expr_trees es));
  does = λ s a n. E.expr_step s a n (TypedExpr-F.CallBuiltin which (expr_all s a n es));
  is = λ s a n. fold-roll-TypedExpr Given Run Run Behind Where Entry Behind (ℕ × Run) (E.bind_step s a n) (E.expr_step s a n) (E.new_step s a) (E.part_step s a) (E.place_step s a) (E.item_step s a n) (E.operand_step s a n) (E.pair_step s a n) (TypedExpr-F.CallBuiltin which (expr_trees es)) ∙ (λ i. E.expr_step s a n (TypedExpr-F.CallBuiltin which (expr_each s a n es i)));
}

abbrev pub said : ExprOf → ExprOf
said e = record {
  tree = roll-TypedExpr (TypedExpr-F.Debug e.tree);
  does = λ s a n. E.expr_step s a n (TypedExpr-F.Debug (e.does s a n));
  is = λ s a n. fold-roll-TypedExpr Given Run Run Behind Where Entry Behind (ℕ × Run) (E.bind_step s a n) (E.expr_step s a n) (E.new_step s a) (E.part_step s a) (E.place_step s a) (E.item_step s a n) (E.operand_step s a n) (E.pair_step s a n) (TypedExpr-F.Debug e.tree) ∙ (λ i. E.expr_step s a n (TypedExpr-F.Debug (e.is s a n i)));
}

abbrev pub query : Query → List BindOf → ExprOf
query q bs = record {
  tree = roll-TypedExpr (TypedExpr-F.Query q (bind_trees bs));
  does = λ s a n. E.expr_step s a n (TypedExpr-F.Query q (bind_all s a n bs));
  is = λ s a n. fold-roll-TypedExpr Given Run Run Behind Where Entry Behind (ℕ × Run) (E.bind_step s a n) (E.expr_step s a n) (E.new_step s a) (E.part_step s a) (E.place_step s a) (E.item_step s a n) (E.operand_step s a n) (E.pair_step s a n) (TypedExpr-F.Query q (bind_trees bs)) ∙ (λ i. E.expr_step s a n (TypedExpr-F.Query q (bind_each s a n bs i)));
}

-- ---- in short

abbrev pub number : ℕ → ExprOf
number m = constant (Is.Whole (pos m))

-- a text, which is UTF-8
abbrev pub text : (t : List ℕ) → is_utf8 t ≡ true → ExprOf
text t e = record {
  tree = roll-TypedExpr (TypedExpr-F.Constant (Is.Text t));
  does = λ s a n st. Gives (Plain (C.Text t)) st;
  is = λ s a n. (constant (Is.Text t)).is s a n ∙ (λ i st. Small.constant (e i) (Is.Text t) st);
}

abbrev pub truth : Bool → ExprOf
truth b = constant (Is.Bool b)

abbrev pub nothing : ExprOf
nothing = constant Is.Null

abbrev pub op : ExprOf → TypedOp → ExprOf → ExprOf
op e o f = chain e (operand Same o Same f ∷ [])

abbrev pub plus : ExprOf → ExprOf → ExprOf
plus e f = op e (Op.Arithmetic Plus Integer) f

abbrev pub times : ExprOf → ExprOf → ExprOf
times e f = op e (Op.Arithmetic Times Integer) f

abbrev pub over : ExprOf → ExprOf → ExprOf
over e f = op e (Op.Arithmetic Over Integer) f

abbrev pub join : ExprOf → ExprOf → ExprOf
join e f = op e Op.Join f

abbrev pub equal : ExprOf → ExprOf → ExprOf
equal e f = op e Op.Equal f

-- 1 / 0
abbrev pub fails : ExprOf
fails = over (number 1) (number 0)

abbrev pub add_to : PlaceOf → ExprOf → ExprOf
add_to t e = assign_with t (record { left = Same; op = Op.Arithmetic Plus Integer; right = Same; back = Same }) e

abbrev pub up : PlaceOf → ExprOf
up t = stepped (record { up = true; before = false }) Integer t

abbrev pub up_before : PlaceOf → ExprOf
up_before t = stepped (record { up = true; before = true }) Integer t

abbrev pub new : ℕ → Constructor → List ExprOf → ExprOf
new c k es = made (instance c k es)

abbrev pub new_exception : ExceptionClass → List ExprOf → ExprOf
new_exception c es = made (exception c es)

abbrev pub list : List ExprOf → ExprOf
list es = made (collection Kinds.List es)

abbrev pub field : ExprOf → ℕ → ℕ → ExprOf
field e c m = path e (field_part c m ∷ [])

abbrev pub cell : ExprOf → ℕ → ℕ → ExprOf
cell e object m = path e (cell_part object m false ∷ [])

abbrev pub new_record : ℕ → List PairOf → ExprOf
new_record object ps = made (a_record object ps)

abbrev pub item : ExprOf → ExprOf → ExprOf
item e f = path e (item_part f ∷ [])

abbrev pub call_on : ExprOf → ℕ → ℕ → Bool → List ExprOf → ExprOf
call_on e c m virtual es = path e (call_part c m virtual es ∷ [])

abbrev pub builtin_on : ExprOf → Which → List ExprOf → ExprOf
builtin_on e which es = path e (builtin_part which es ∷ [])

-- a query where one record is wanted
abbrev pub only : ExprOf → ExprOf
only e = convert ToRecord e

abbrev pub map_of : ExprOf → ExprOf
map_of e = made (by_ids e)
