-- The depth of a tree that is made of others, by those.
use Rattle.std.specs.Prelude.{◌≡◌, ℕ}
use Rattle.apex_syntax.specs.Depths.{expr_depth, new_depth, part_depth, bind_depth, cond_depth, count_depth, list_depth, sel_depth, select_depth, value_depth, field_depth, item_depth, operand_depth, query_depth, expr_step, new_step, part_step, bind_step, cond_step, count_step, list_step, sel_step, select_step, value_step, field_step, item_step, operand_step, query_step}
use Rattle.apex_syntax.specs.declared.expr.Expr.TheOpen.{Expr-F, NewPart-F, PostfixPart-F, BindTree-F, CondTree-F, CountTree-F, ListTree-F, SelTree-F, SelectTree-F, ValueTree-F, FieldValue-F, NewItem-F, Operand-F, QueryTree-F}
use Rattle.apex_syntax.specs.declared.expr.Expr.TheFolds.{fold-roll-Expr, fold-roll-NewPart, fold-roll-PostfixPart, fold-roll-BindTree, fold-roll-CondTree, fold-roll-CountTree, fold-roll-ListTree, fold-roll-SelTree, fold-roll-SelectTree, fold-roll-ValueTree, fold-roll-FieldValue, fold-roll-NewItem, fold-roll-Operand, fold-roll-QueryTree, map-Expr, map-NewPart, map-PostfixPart, map-BindTree, map-CondTree, map-CountTree, map-ListTree, map-SelTree, map-SelectTree, map-ValueTree, map-FieldValue, map-NewItem, map-Operand, map-QueryTree}
use Rattle.apex_syntax.specs.declared.expr.Expr.TheViews.{roll-Expr, roll-NewPart, roll-PostfixPart, roll-BindTree, roll-CondTree, roll-CountTree, roll-ListTree, roll-SelTree, roll-SelectTree, roll-ValueTree, roll-FieldValue, roll-NewItem, roll-Operand, roll-QueryTree}
use Rattle.apex_syntax.specs.declared.expr.Expr.{Expr}
use Rattle.apex_syntax.specs.declared.expr.FieldValue.{FieldValue}
use Rattle.apex_syntax.specs.declared.expr.NewItem.{NewItem}
use Rattle.apex_syntax.specs.declared.expr.NewPart.{NewPart}
use Rattle.apex_syntax.specs.declared.expr.Operand.{Operand}
use Rattle.apex_syntax.specs.declared.expr.PostfixPart.{PostfixPart}
use Rattle.apex_syntax.specs.declared.query.BindTree.{BindTree}
use Rattle.apex_syntax.specs.declared.query.CondTree.{CondTree}
use Rattle.apex_syntax.specs.declared.query.CountTree.{CountTree}
use Rattle.apex_syntax.specs.declared.query.ListTree.{ListTree}
use Rattle.apex_syntax.specs.declared.query.QueryTree.{QueryTree}
use Rattle.apex_syntax.specs.declared.query.SelTree.{SelTree}
use Rattle.apex_syntax.specs.declared.query.SelectTree.{SelectTree}
use Rattle.apex_syntax.specs.declared.query.ValueTree.{ValueTree}

abbrev pub ExprLayer : Type 0
ExprLayer = Expr-F Expr NewPart PostfixPart BindTree CondTree CountTree ListTree SelTree SelectTree ValueTree FieldValue NewItem Operand QueryTree

pub expr_made : (x : ExprLayer) → expr_depth (roll-Expr x) ≡ expr_step (map-Expr _ _ _ _ _ _ _ _ _ _ _ _ _ _ _ _ _ _ _ _ _ _ _ _ _ _ _ _ expr_depth new_depth part_depth bind_depth cond_depth count_depth list_depth sel_depth select_depth value_depth field_depth item_depth operand_depth query_depth x)
expr_made x = fold-roll-Expr ℕ ℕ ℕ ℕ ℕ ℕ ℕ ℕ ℕ ℕ ℕ ℕ ℕ ℕ expr_step new_step part_step bind_step cond_step count_step list_step sel_step select_step value_step field_step item_step operand_step query_step x

abbrev pub NewLayer : Type 0
NewLayer = NewPart-F Expr NewPart PostfixPart BindTree CondTree CountTree ListTree SelTree SelectTree ValueTree FieldValue NewItem Operand QueryTree

pub new_made : (x : NewLayer) → new_depth (roll-NewPart x) ≡ new_step (map-NewPart _ _ _ _ _ _ _ _ _ _ _ _ _ _ _ _ _ _ _ _ _ _ _ _ _ _ _ _ expr_depth new_depth part_depth bind_depth cond_depth count_depth list_depth sel_depth select_depth value_depth field_depth item_depth operand_depth query_depth x)
new_made x = fold-roll-NewPart ℕ ℕ ℕ ℕ ℕ ℕ ℕ ℕ ℕ ℕ ℕ ℕ ℕ ℕ expr_step new_step part_step bind_step cond_step count_step list_step sel_step select_step value_step field_step item_step operand_step query_step x

abbrev pub PartLayer : Type 0
PartLayer = PostfixPart-F Expr NewPart PostfixPart BindTree CondTree CountTree ListTree SelTree SelectTree ValueTree FieldValue NewItem Operand QueryTree

pub part_made : (x : PartLayer) → part_depth (roll-PostfixPart x) ≡ part_step (map-PostfixPart _ _ _ _ _ _ _ _ _ _ _ _ _ _ _ _ _ _ _ _ _ _ _ _ _ _ _ _ expr_depth new_depth part_depth bind_depth cond_depth count_depth list_depth sel_depth select_depth value_depth field_depth item_depth operand_depth query_depth x)
part_made x = fold-roll-PostfixPart ℕ ℕ ℕ ℕ ℕ ℕ ℕ ℕ ℕ ℕ ℕ ℕ ℕ ℕ expr_step new_step part_step bind_step cond_step count_step list_step sel_step select_step value_step field_step item_step operand_step query_step x

abbrev pub BindLayer : Type 0
BindLayer = BindTree-F Expr NewPart PostfixPart BindTree CondTree CountTree ListTree SelTree SelectTree ValueTree FieldValue NewItem Operand QueryTree

pub bind_made : (x : BindLayer) → bind_depth (roll-BindTree x) ≡ bind_step (map-BindTree _ _ _ _ _ _ _ _ _ _ _ _ _ _ _ _ _ _ _ _ _ _ _ _ _ _ _ _ expr_depth new_depth part_depth bind_depth cond_depth count_depth list_depth sel_depth select_depth value_depth field_depth item_depth operand_depth query_depth x)
bind_made x = fold-roll-BindTree ℕ ℕ ℕ ℕ ℕ ℕ ℕ ℕ ℕ ℕ ℕ ℕ ℕ ℕ expr_step new_step part_step bind_step cond_step count_step list_step sel_step select_step value_step field_step item_step operand_step query_step x

abbrev pub CondLayer : Type 0
CondLayer = CondTree-F Expr NewPart PostfixPart BindTree CondTree CountTree ListTree SelTree SelectTree ValueTree FieldValue NewItem Operand QueryTree

pub cond_made : (x : CondLayer) → cond_depth (roll-CondTree x) ≡ cond_step (map-CondTree _ _ _ _ _ _ _ _ _ _ _ _ _ _ _ _ _ _ _ _ _ _ _ _ _ _ _ _ expr_depth new_depth part_depth bind_depth cond_depth count_depth list_depth sel_depth select_depth value_depth field_depth item_depth operand_depth query_depth x)
cond_made x = fold-roll-CondTree ℕ ℕ ℕ ℕ ℕ ℕ ℕ ℕ ℕ ℕ ℕ ℕ ℕ ℕ expr_step new_step part_step bind_step cond_step count_step list_step sel_step select_step value_step field_step item_step operand_step query_step x

abbrev pub CountLayer : Type 0
CountLayer = CountTree-F Expr NewPart PostfixPart BindTree CondTree CountTree ListTree SelTree SelectTree ValueTree FieldValue NewItem Operand QueryTree

pub count_made : (x : CountLayer) → count_depth (roll-CountTree x) ≡ count_step (map-CountTree _ _ _ _ _ _ _ _ _ _ _ _ _ _ _ _ _ _ _ _ _ _ _ _ _ _ _ _ expr_depth new_depth part_depth bind_depth cond_depth count_depth list_depth sel_depth select_depth value_depth field_depth item_depth operand_depth query_depth x)
count_made x = fold-roll-CountTree ℕ ℕ ℕ ℕ ℕ ℕ ℕ ℕ ℕ ℕ ℕ ℕ ℕ ℕ expr_step new_step part_step bind_step cond_step count_step list_step sel_step select_step value_step field_step item_step operand_step query_step x

abbrev pub ListLayer : Type 0
ListLayer = ListTree-F Expr NewPart PostfixPart BindTree CondTree CountTree ListTree SelTree SelectTree ValueTree FieldValue NewItem Operand QueryTree

pub list_made : (x : ListLayer) → list_depth (roll-ListTree x) ≡ list_step (map-ListTree _ _ _ _ _ _ _ _ _ _ _ _ _ _ _ _ _ _ _ _ _ _ _ _ _ _ _ _ expr_depth new_depth part_depth bind_depth cond_depth count_depth list_depth sel_depth select_depth value_depth field_depth item_depth operand_depth query_depth x)
list_made x = fold-roll-ListTree ℕ ℕ ℕ ℕ ℕ ℕ ℕ ℕ ℕ ℕ ℕ ℕ ℕ ℕ expr_step new_step part_step bind_step cond_step count_step list_step sel_step select_step value_step field_step item_step operand_step query_step x

abbrev pub SelLayer : Type 0
SelLayer = SelTree-F Expr NewPart PostfixPart BindTree CondTree CountTree ListTree SelTree SelectTree ValueTree FieldValue NewItem Operand QueryTree

pub sel_made : (x : SelLayer) → sel_depth (roll-SelTree x) ≡ sel_step (map-SelTree _ _ _ _ _ _ _ _ _ _ _ _ _ _ _ _ _ _ _ _ _ _ _ _ _ _ _ _ expr_depth new_depth part_depth bind_depth cond_depth count_depth list_depth sel_depth select_depth value_depth field_depth item_depth operand_depth query_depth x)
sel_made x = fold-roll-SelTree ℕ ℕ ℕ ℕ ℕ ℕ ℕ ℕ ℕ ℕ ℕ ℕ ℕ ℕ expr_step new_step part_step bind_step cond_step count_step list_step sel_step select_step value_step field_step item_step operand_step query_step x

abbrev pub SelectLayer : Type 0
SelectLayer = SelectTree-F Expr NewPart PostfixPart BindTree CondTree CountTree ListTree SelTree SelectTree ValueTree FieldValue NewItem Operand QueryTree

pub select_made : (x : SelectLayer) → select_depth (roll-SelectTree x) ≡ select_step (map-SelectTree _ _ _ _ _ _ _ _ _ _ _ _ _ _ _ _ _ _ _ _ _ _ _ _ _ _ _ _ expr_depth new_depth part_depth bind_depth cond_depth count_depth list_depth sel_depth select_depth value_depth field_depth item_depth operand_depth query_depth x)
select_made x = fold-roll-SelectTree ℕ ℕ ℕ ℕ ℕ ℕ ℕ ℕ ℕ ℕ ℕ ℕ ℕ ℕ expr_step new_step part_step bind_step cond_step count_step list_step sel_step select_step value_step field_step item_step operand_step query_step x

abbrev pub ValueLayer : Type 0
ValueLayer = ValueTree-F Expr NewPart PostfixPart BindTree CondTree CountTree ListTree SelTree SelectTree ValueTree FieldValue NewItem Operand QueryTree

pub value_made : (x : ValueLayer) → value_depth (roll-ValueTree x) ≡ value_step (map-ValueTree _ _ _ _ _ _ _ _ _ _ _ _ _ _ _ _ _ _ _ _ _ _ _ _ _ _ _ _ expr_depth new_depth part_depth bind_depth cond_depth count_depth list_depth sel_depth select_depth value_depth field_depth item_depth operand_depth query_depth x)
value_made x = fold-roll-ValueTree ℕ ℕ ℕ ℕ ℕ ℕ ℕ ℕ ℕ ℕ ℕ ℕ ℕ ℕ expr_step new_step part_step bind_step cond_step count_step list_step sel_step select_step value_step field_step item_step operand_step query_step x

abbrev pub FieldLayer : Type 0
FieldLayer = FieldValue-F Expr NewPart PostfixPart BindTree CondTree CountTree ListTree SelTree SelectTree ValueTree FieldValue NewItem Operand QueryTree

pub field_made : (x : FieldLayer) → field_depth (roll-FieldValue x) ≡ field_step (map-FieldValue _ _ _ _ _ _ _ _ _ _ _ _ _ _ _ _ _ _ _ _ _ _ _ _ _ _ _ _ expr_depth new_depth part_depth bind_depth cond_depth count_depth list_depth sel_depth select_depth value_depth field_depth item_depth operand_depth query_depth x)
field_made x = fold-roll-FieldValue ℕ ℕ ℕ ℕ ℕ ℕ ℕ ℕ ℕ ℕ ℕ ℕ ℕ ℕ expr_step new_step part_step bind_step cond_step count_step list_step sel_step select_step value_step field_step item_step operand_step query_step x

abbrev pub ItemLayer : Type 0
ItemLayer = NewItem-F Expr NewPart PostfixPart BindTree CondTree CountTree ListTree SelTree SelectTree ValueTree FieldValue NewItem Operand QueryTree

pub item_made : (x : ItemLayer) → item_depth (roll-NewItem x) ≡ item_step (map-NewItem _ _ _ _ _ _ _ _ _ _ _ _ _ _ _ _ _ _ _ _ _ _ _ _ _ _ _ _ expr_depth new_depth part_depth bind_depth cond_depth count_depth list_depth sel_depth select_depth value_depth field_depth item_depth operand_depth query_depth x)
item_made x = fold-roll-NewItem ℕ ℕ ℕ ℕ ℕ ℕ ℕ ℕ ℕ ℕ ℕ ℕ ℕ ℕ expr_step new_step part_step bind_step cond_step count_step list_step sel_step select_step value_step field_step item_step operand_step query_step x

abbrev pub OperandLayer : Type 0
OperandLayer = Operand-F Expr NewPart PostfixPart BindTree CondTree CountTree ListTree SelTree SelectTree ValueTree FieldValue NewItem Operand QueryTree

pub operand_made : (x : OperandLayer) → operand_depth (roll-Operand x) ≡ operand_step (map-Operand _ _ _ _ _ _ _ _ _ _ _ _ _ _ _ _ _ _ _ _ _ _ _ _ _ _ _ _ expr_depth new_depth part_depth bind_depth cond_depth count_depth list_depth sel_depth select_depth value_depth field_depth item_depth operand_depth query_depth x)
operand_made x = fold-roll-Operand ℕ ℕ ℕ ℕ ℕ ℕ ℕ ℕ ℕ ℕ ℕ ℕ ℕ ℕ expr_step new_step part_step bind_step cond_step count_step list_step sel_step select_step value_step field_step item_step operand_step query_step x

abbrev pub QueryLayer : Type 0
QueryLayer = QueryTree-F Expr NewPart PostfixPart BindTree CondTree CountTree ListTree SelTree SelectTree ValueTree FieldValue NewItem Operand QueryTree

pub query_made : (x : QueryLayer) → query_depth (roll-QueryTree x) ≡ query_step (map-QueryTree _ _ _ _ _ _ _ _ _ _ _ _ _ _ _ _ _ _ _ _ _ _ _ _ _ _ _ _ expr_depth new_depth part_depth bind_depth cond_depth count_depth list_depth sel_depth select_depth value_depth field_depth item_depth operand_depth query_depth x)
query_made x = fold-roll-QueryTree ℕ ℕ ℕ ℕ ℕ ℕ ℕ ℕ ℕ ℕ ℕ ℕ ℕ ℕ expr_step new_step part_step bind_step cond_step count_step list_step sel_step select_step value_step field_step item_step operand_step query_step x
