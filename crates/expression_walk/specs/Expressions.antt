-- The walk over expressions: what one comes to by what its parts come to, or its first fault (docs/language.md, "The
-- walk over expressions").
use Rattle.std.specs.Prelude.{ℕ, List, [], ◌∷◌, ◌++◌, length, map, Option, None, Some, option_map}
use Rattle.apex_num.specs.declared.cell.Cell.{Cell}
use Rattle.apex_num.specs.declared.cell.Cell.TheVariants as X
use Rattle.apex_rows.specs.declared.query.Cond.{Cond}
use Rattle.apex_rows.specs.declared.query.Cond.TheVariants as Q
use Rattle.apex_rows.specs.declared.query.Query.{Query}
use Rattle.apex_rows.specs.declared.query.Term.{Term}
use Rattle.apex_rows.specs.declared.query.Term.TheVariants.{Given}
use Rattle.apex_rows.specs.declared.query.Terms.{Terms}
use Rattle.apex_rows.specs.declared.query.Terms.TheVariants as Ts
use Rattle.fault_words.specs.declared.fault.FaultWord.TheVariants.{BadQuery}
use Rattle.apex_syntax.specs.declared.expr.Expr.{Expr}
use Rattle.apex_syntax.specs.declared.expr.Expr.TheOpen.{Expr-F, NewPart-F, PostfixPart-F, BindTree-F, CondTree-F, CountTree-F, ListTree-F, SelTree-F, SelectTree-F, ValueTree-F, FieldValue-F, NewItem-F, Operand-F, QueryTree-F}
use Rattle.apex_syntax.specs.declared.expr.Expr.TheFolds.{fold-Expr, fold-NewPart, fold-PostfixPart, fold-BindTree, fold-CondTree, fold-CountTree, fold-ListTree, fold-SelTree, fold-SelectTree, fold-ValueTree, fold-FieldValue, fold-NewItem, fold-Operand, fold-QueryTree}
use Rattle.apex_syntax.specs.declared.expr.NewPart.{NewPart}
use Rattle.apex_syntax.specs.declared.expr.PostfixPart.{PostfixPart}
use Rattle.apex_syntax.specs.declared.expr.FieldValue.{FieldValue}
use Rattle.apex_syntax.specs.declared.expr.NewItem.{NewItem}
use Rattle.apex_syntax.specs.declared.expr.Operand.{Operand}
use Rattle.apex_syntax.specs.declared.expr.Expr.TheViews.{out-QueryTree}
use Rattle.apex_syntax.specs.declared.expr.TypeTree.TheViews.{out-TypeTree}
use Rattle.apex_syntax.specs.declared.query.BindTree.{BindTree}
use Rattle.apex_syntax.specs.declared.query.CondTree.{CondTree}
use Rattle.apex_syntax.specs.declared.query.CountTree.{CountTree}
use Rattle.apex_syntax.specs.declared.query.ListTree.{ListTree}
use Rattle.apex_syntax.specs.declared.query.SelTree.{SelTree}
use Rattle.apex_syntax.specs.declared.query.SelectTree.{SelectTree}
use Rattle.apex_syntax.specs.declared.query.ValueTree.{ValueTree}
use Rattle.apex_syntax.specs.declared.query.OrderTree.{OrderTree}
use Rattle.apex_syntax.specs.declared.query.QueryTree.{QueryTree}
use Rattle.apex_syntax.specs.declared.word.Word.{Word}
use Rattle.new_values.specs.Fillings.{filling_of, bare_item, pair_item, filled_with, mapped_with}
use Rattle.new_values.specs.Indices.{indexed}
use Rattle.typed_calls.specs.Made.{made_with}
use Rattle.typed_calls.specs.Makers.{maker_of}
use Rattle.expression_walk.specs.Leaves.{literal, value_of, valued, in_parentheses, prefixed, stepped_behind, assigned_by, own_receiver, called}
use Rattle.expression_walk.specs.Views.{Sight}
use Rattle.method_calls.specs.Callees.{called_on, called_alone}
use Rattle.name_meanings.specs.Accesses.{member_of}
use Rattle.name_meanings.specs.NamesAlone.{name_in, this_in, super_in}
use Rattle.query_terms.specs.Besides.{Beside}
use Rattle.query_terms.specs.OpenQueries.{opened, counting, with_path, with_child, with_cond, with_limit, with_offset, with_order, closed_query, bound, bound_list}
use Rattle.query_terms.specs.Paths.{field_path, compared_path, cond_op}
use Rattle.query_terms.specs.Sources.{object_named, children_named, query_value}
use Rattle.query_terms.specs.Values.{given, number_cell, text_cell, day_cell, moment_cell, truth_cell}
use Rattle.query_terms.specs.declared.open.OpenQuery.{OpenQuery}
use Rattle.new_values.specs.Fields.{record_of, field_named, with_value, pair, record_with}
use Rattle.static_types.specs.declared.kind.Primitive.{Primitive}
use Rattle.static_types.specs.declared.kind.Primitive.TheVariants as P
use Rattle.static_types.specs.declared.kind.ValueType.{ValueType}
use Rattle.static_types.specs.declared.kind.ValueType.TheViews.{out-ValueType}
use Rattle.type_names.specs.TypeTrees.{type_of}
use Rattle.type_names.specs.Walks.{Walk, Gives, wrong, onward, all}
use Rattle.typed_operations.specs.Casts.{cast_to}
use Rattle.typed_operations.specs.Chains.{begun, with_operand, closed}
use Rattle.typed_operations.specs.Choices.{chosen}
use Rattle.typed_operations.specs.Places.{writable}
use Rattle.typed_operations.specs.declared.chain.OpenChain.{OpenChain}
use Rattle.typed_operations.specs.declared.place.Target.{Target}
use Rattle.typed_program.specs.declared.expr.CollectionKind.{CollectionKind}
use Rattle.typed_program.specs.declared.expr.CollectionKind.TheVariants as C
use Rattle.typed_program.specs.declared.expr.TypedBind.{TypedBind}
use Rattle.typed_program.specs.declared.expr.TypedExpr.{TypedExpr}
use Rattle.typed_program.specs.declared.expr.TypedItem.{TypedItem}
use Rattle.typed_program.specs.declared.expr.TypedPair.{TypedPair}
use Rattle.typed_values.specs.declared.typed.Typed.{Typed}

-- ---- what the parts of an expression come to

-- what `new` makes of a type, by the bytes of `new` and of the type
abbrev pub NewWalk : Type 0
NewWalk = ℕ → ℕ → ValueType → Walk Typed

-- what a value comes to with a part behind it
abbrev pub PartWalk : Type 0
PartWalk = Typed → Walk Typed

abbrev pub OperandWalk : Type 0
OperandWalk = OpenChain → Walk OpenChain

-- the fields of a new record of an object with one more
abbrev pub FieldWalk : Type 0
FieldWalk = ℕ → List TypedPair → Walk (List TypedPair)

pub record ItemWalk : Type 0 where
  pub item : Walk Typed
  pub value : Option (Walk Typed)

-- where its colon stands, and its expression
pub record BindWalk : Type 0 where
  pub at : ℕ
  pub value : Walk Typed

abbrev pub SelWalk : Type 0
SelWalk = OpenQuery → Beside OpenQuery

-- the object that it names, and the whole where that has this number
pub record QueryWalk : Type 0 where
  pub object : Word
  pub from : ℕ → Beside Query

-- ---- several parts, from left to right

abbrev pub maybe : {A : Type 0} → Option (Walk A) → Walk (Option A)
maybe None = Gives None
maybe (Some w) = onward w (λ a. Gives (Some a))

abbrev pub parts_from : List PartWalk → Typed → Walk Typed
parts_from [] value = Gives value
parts_from (p ∷ ps) value = onward (p value) (parts_from ps)

abbrev pub operands_from : List OperandWalk → OpenChain → Walk OpenChain
operands_from [] chain = Gives chain
operands_from (o ∷ os) chain = onward (o chain) (operands_from os)

abbrev pub fields_from : ℕ → List FieldWalk → List TypedPair → Walk (List TypedPair)
fields_from object [] pairs = Gives pairs
fields_from object (f ∷ fs) pairs = onward (f object pairs) (fields_from object fs)

abbrev pub sels_from : List SelWalk → OpenQuery → Beside OpenQuery
sels_from [] query binds = Gives (query, binds)
sels_from (s ∷ ss) query binds = onward (s query binds) (λ r. sels_from ss r.0 r.1)

-- these values, and those that follow them
abbrev pub terms_from : List (Beside Term) → List Term → Beside (List Term)
terms_from [] terms binds = Gives (terms, binds)
terms_from (t ∷ ts) terms binds = onward (t binds) (λ r. terms_from ts (terms ++ r.0 ∷ []) r.1)

abbrev pub conds_from : List (Beside Cond) → List Cond → Beside (List Cond)
conds_from [] conds binds = Gives (conds, binds)
conds_from (c ∷ cs) conds binds = onward (c binds) (λ r. conds_from cs (conds ++ r.0 ∷ []) r.1)

-- ---- the parts of a query that may be absent

abbrev pub filtered : Option (ℕ → Beside Cond) → OpenQuery → Beside OpenQuery
filtered None query binds = Gives (query, binds)
filtered (Some c) query binds = onward (c query.object binds) (λ r. Gives (with_cond query r.0, r.1))

abbrev pub limited : Option (Beside Term) → OpenQuery → Beside OpenQuery
limited None query binds = Gives (query, binds)
limited (Some t) query binds = onward (t binds) (λ r. Gives (with_limit query r.0, r.1))

abbrev pub skipped : Option (Beside Term) → OpenQuery → Beside OpenQuery
skipped None query binds = Gives (query, binds)
skipped (Some t) query binds = onward (t binds) (λ r. Gives (with_offset query r.0, r.1))

-- ---- the steps

module _ (s : Sight) where
  abbrev pub call_alone : ℕ → Word → List (Walk Typed) → Walk Typed
  call_alone at w args =
      onward (called_alone s.around s.methods w (length args)) (λ callee.
      onward (all (map valued args)) (λ values.
      called s.around (own_receiver s.around.class at) callee at values))

  abbrev pub call_on : Word → List (Walk Typed) → PartWalk
  call_on w args value =
      onward (called_on s.around s.methods value w (length args)) (λ callee.
      onward (all (map valued args)) (λ values.
      called s.around value callee w.span.from values))

  abbrev pub chain_of : List OperandWalk → Typed → Walk Typed
  chain_of operands first = onward (operands_from operands (begun first)) (λ chain. Gives (closed chain))

  -- that the target may be assigned to is told before the faults of the value
  abbrev pub assignment : (Target → Typed → Walk Typed) → Walk Typed → Typed → Walk Typed
  assignment assigned_to value x = onward (writable x) (λ target. onward (valued value) (assigned_to target))

  abbrev pub query_of : ℕ → QueryWalk → Walk Typed
  query_of at q =
      onward (object_named s.around.names.objects q.object) (λ object.
      onward (q.from object []) (λ r.
      Gives (query_value at r.0 r.1)))

  abbrev pub expr_step : Expr-F (Walk Typed) NewWalk PartWalk BindWalk (ℕ → Beside Cond) (Beside Term) (Primitive → Beside Terms) SelWalk SelWalk (Primitive → Beside Term) FieldWalk ItemWalk OperandWalk QueryWalk → Walk Typed
  expr_step (Expr-F.Literal sp l) = Gives (literal sp.from l)
  expr_step (Expr-F.This sp) = this_in s.around sp.from
  expr_step (Expr-F.Super sp) = super_in s.around sp.from
  expr_step (Expr-F.Name w) = name_in s.around s.locals w
  expr_step (Expr-F.«Expr::Call» sp w args) = call_alone w.span.from w args
  expr_step (Expr-F.«Expr::Paren» sp x) = onward (valued x) (λ value. Gives (in_parentheses sp.from value))
  expr_step (Expr-F.New sp t part) = onward (type_of s.around.names t) (part sp.from (out-TypeTree t).span.from)
  expr_step (Expr-F.«Expr::Query» sp q) = query_of sp.from q
  expr_step (Expr-F.Postfix sp x parts) = onward x (parts_from parts)
  expr_step (Expr-F.Prefix sp op x) = onward (valued x) (prefixed s.around.heads sp.from op)
  expr_step (Expr-F.Cast sp t x) = onward (type_of s.around.names t) (λ kind. onward (valued x) (cast_to s.around.heads sp.from kind))
  expr_step (Expr-F.Chain sp x operands) = onward (valued x) (chain_of operands)
  expr_step (Expr-F.Conditional sp c x y) =
      onward (valued c) (λ test. onward (valued x) (λ first. onward (valued y) (chosen s.around.heads test first)))
  expr_step (Expr-F.Assign sp x op v) = onward (valued x) (assignment (λ target. assigned_by s.around.heads target op) v)

  abbrev pub item_in : ValueType → ItemWalk → Walk TypedExpr
  item_in kind i = onward (valued i.item) (λ item. onward (maybe (option_map valued i.value)) (bare_item s.around.heads kind item))

  abbrev pub items_in : ValueType → List ItemWalk → List (Walk TypedExpr)
  items_in kind items = map (item_in kind) items

  abbrev pub pair_in : ValueType → ItemWalk → Walk TypedItem
  pair_in kind i = onward (valued i.item) (λ item. onward (maybe (option_map valued i.value)) (pair_item s.around.heads kind item))

  abbrev pub pairs_in : ValueType → List ItemWalk → List (Walk TypedItem)
  pairs_in kind items = map (pair_in kind) items

  abbrev pub filled_by : ℕ → ValueType → List ItemWalk → CollectionKind → Walk Typed
  filled_by at kind items (C.Map key) = onward (all (pairs_in kind items)) (λ pairs. Gives (mapped_with at kind key pairs))
  filled_by at kind items filling = onward (all (items_in kind items)) (λ trees. Gives (filled_with at kind filling trees))

  abbrev pub made_by : ℕ → ℕ → ValueType → List (Walk Typed) → Walk Typed
  made_by at type_at kind args =
      onward (maker_of s.around (out-ValueType kind) type_at (length args)) (λ maker.
      onward (all (map valued args)) (made_with s.around at kind maker type_at))

  abbrev pub record_by : ℕ → List FieldWalk → ℕ → Walk Typed
  record_by at fields object = onward (fields_from object fields []) (λ pairs. Gives (record_with at object pairs))

  abbrev pub new_step : NewPart-F (Walk Typed) NewWalk PartWalk BindWalk (ℕ → Beside Cond) (Beside Term) (Primitive → Beside Terms) SelWalk SelWalk (Primitive → Beside Term) FieldWalk ItemWalk OperandWalk QueryWalk → NewWalk
  new_step (NewPart-F.Args sp args) at type_at kind = made_by at type_at kind args
  new_step (NewPart-F.Fields sp fields) at type_at kind = onward (record_of (out-ValueType kind) type_at) (record_by at fields)
  new_step (NewPart-F.«NewPart::Items» sp items) at type_at kind = onward (filling_of (out-ValueType kind) type_at) (filled_by at kind items)

  abbrev pub part_step : PostfixPart-F (Walk Typed) NewWalk PartWalk BindWalk (ℕ → Beside Cond) (Beside Term) (Primitive → Beside Terms) SelWalk SelWalk (Primitive → Beside Term) FieldWalk ItemWalk OperandWalk QueryWalk → PartWalk
  part_step (PostfixPart-F.Field w) value = member_of s.around value w
  part_step (PostfixPart-F.«PostfixPart::Call» sp w args) value = call_on w args value
  part_step (PostfixPart-F.Index sp x) value = onward (value_of value) (λ list. onward (valued x) (indexed s.around.heads list))
  part_step (PostfixPart-F.Step sp op) value = stepped_behind op value

  abbrev pub operand_step : Operand-F (Walk Typed) NewWalk PartWalk BindWalk (ℕ → Beside Cond) (Beside Term) (Primitive → Beside Terms) SelWalk SelWalk (Primitive → Beside Term) FieldWalk ItemWalk OperandWalk QueryWalk → OperandWalk
  operand_step o chain = onward (valued o.right) (with_operand s.around.heads chain o.op)

  -- the name of a field is told before its value
  abbrev pub field_step : FieldValue-F (Walk Typed) NewWalk PartWalk BindWalk (ℕ → Beside Cond) (Beside Term) (Primitive → Beside Terms) SelWalk SelWalk (Primitive → Beside Term) FieldWalk ItemWalk OperandWalk QueryWalk → FieldWalk
  field_step f object pairs =
      onward (field_named s.around.objects object pairs f.field) (λ field.
      onward (valued f.value) (λ value.
      onward (with_value s.around.heads field value) (λ tree.
      Gives (pairs ++ pair field.field tree ∷ []))))

  abbrev pub item_step : NewItem-F (Walk Typed) NewWalk PartWalk BindWalk (ℕ → Beside Cond) (Beside Term) (Primitive → Beside Terms) SelWalk SelWalk (Primitive → Beside Term) FieldWalk ItemWalk OperandWalk QueryWalk → ItemWalk
  item_step i = record { item = i.item; value = i.value }

  -- ---- queries

  abbrev pub bind_step : BindTree-F (Walk Typed) NewWalk PartWalk BindWalk (ℕ → Beside Cond) (Beside Term) (Primitive → Beside Terms) SelWalk SelWalk (Primitive → Beside Term) FieldWalk ItemWalk OperandWalk QueryWalk → BindWalk
  bind_step (BindTree-F.Tokens r) = record { at = r.span.from; value = wrong BadQuery r.span.from }
  bind_step (BindTree-F.Expr sp x) = record { at = sp.from; value = valued x }

  abbrev pub written : Option Cell → ℕ → Beside Term
  written cell at binds = onward (given cell at) (λ term. Gives (term, binds))

  abbrev pub bound_to : Primitive → BindWalk → Beside Term
  bound_to to b binds = onward b.value (λ value. bound s.around.heads to b.at value binds)

  abbrev pub value_step : ValueTree-F (Walk Typed) NewWalk PartWalk BindWalk (ℕ → Beside Cond) (Beside Term) (Primitive → Beside Terms) SelWalk SelWalk (Primitive → Beside Term) FieldWalk ItemWalk OperandWalk QueryWalk → Primitive → Beside Term
  value_step (ValueTree-F.Number sp minus n) to binds = written (number_cell to minus n) sp.from binds
  value_step (ValueTree-F.Text sp bytes) to binds = written (text_cell to bytes) sp.from binds
  value_step (ValueTree-F.Date sp day) to binds = written (day_cell to day) sp.from binds
  value_step (ValueTree-F.Moment sp second) to binds = written (moment_cell to second) sp.from binds
  value_step (ValueTree-F.Bool sp truth) to binds = written (truth_cell to truth) sp.from binds
  value_step (ValueTree-F.Null sp) to binds = Gives (Given X.Null, binds)
  value_step (ValueTree-F.«ValueTree::Bind» b) to binds = bound_to to b binds

  abbrev pub list_step : ListTree-F (Walk Typed) NewWalk PartWalk BindWalk (ℕ → Beside Cond) (Beside Term) (Primitive → Beside Terms) SelWalk SelWalk (Primitive → Beside Term) FieldWalk ItemWalk OperandWalk QueryWalk → Primitive → Beside Terms
  list_step (ListTree-F.Values sp values) to binds = onward (terms_from (map (λ v. v to) values) [] binds) (λ r. Gives (Ts.Given r.0, r.1))
  list_step (ListTree-F.«ListTree::Bind» b) to binds = onward b.value (λ value. bound_list s.around.heads to b.at value binds)

  abbrev pub cond_step : CondTree-F (Walk Typed) NewWalk PartWalk BindWalk (ℕ → Beside Cond) (Beside Term) (Primitive → Beside Terms) SelWalk SelWalk (Primitive → Beside Term) FieldWalk ItemWalk OperandWalk QueryWalk → ℕ → Beside Cond
  cond_step (CondTree-F.All sp cs) object binds = onward (conds_from (map (λ c. c object) cs) [] binds) (λ r. Gives (Q.All r.0, r.1))
  cond_step (CondTree-F.Any sp cs) object binds = onward (conds_from (map (λ c. c object) cs) [] binds) (λ r. Gives (Q.Any r.0, r.1))
  cond_step (CondTree-F.Not sp c) object binds = onward (c object binds) (λ r. Gives (Q.Not r.0, r.1))
  cond_step (CondTree-F.«CondTree::Paren» sp c) object binds = c object binds
  cond_step (CondTree-F.Compare sp p op v) object binds =
      onward (compared_path s.around.objects object p op) (λ found.
      onward (v found.kind binds) (λ r.
      Gives (Q.Compare found.path (cond_op op) r.0, r.1)))
  cond_step (CondTree-F.Within sp p negated l) object binds =
      onward (field_path s.around.objects object p) (λ found.
      onward (l found.kind binds) (λ r.
      Gives (Q.Within found.path negated r.0, r.1)))

  abbrev pub count_step : CountTree-F (Walk Typed) NewWalk PartWalk BindWalk (ℕ → Beside Cond) (Beside Term) (Primitive → Beside Terms) SelWalk SelWalk (Primitive → Beside Term) FieldWalk ItemWalk OperandWalk QueryWalk → Beside Term
  count_step (CountTree-F.Whole sp n) binds = Gives (Given (X.Whole n), binds)
  count_step (CountTree-F.«CountTree::Bind» b) binds = bound_to P.Integer b binds

  abbrev pub sel_step : SelTree-F (Walk Typed) NewWalk PartWalk BindWalk (ℕ → Beside Cond) (Beside Term) (Primitive → Beside Terms) SelWalk SelWalk (Primitive → Beside Term) FieldWalk ItemWalk OperandWalk QueryWalk → SelWalk
  sel_step (SelTree-F.Path p) query binds = onward (field_path s.around.objects query.object p) (λ found. Gives (with_path query found.path, binds))
  sel_step (SelTree-F.«SelTree::Query» sp q) query binds =
      onward (children_named s.around.objects query.object q.object) (λ child.
      onward (q.from child.object binds) (λ r.
      Gives (with_child query child.lookup r.0, r.1)))

  abbrev pub select_step : SelectTree-F (Walk Typed) NewWalk PartWalk BindWalk (ℕ → Beside Cond) (Beside Term) (Primitive → Beside Terms) SelWalk SelWalk (Primitive → Beside Term) FieldWalk ItemWalk OperandWalk QueryWalk → SelWalk
  select_step (SelectTree-F.Count sp) query binds = Gives (counting query, binds)
  select_step (SelectTree-F.«SelectTree::Items» items) query binds = sels_from items query binds

  -- ORDER and its keys don't have binds
  abbrev pub with_keys_of : Option OrderTree → OpenQuery → Beside OpenQuery
  with_keys_of order query binds = onward (with_order s.around.objects query order) (λ q. Gives (q, binds))

  -- the clauses of a query, in the order of the text
  abbrev pub clauses : SelWalk → Option (ℕ → Beside Cond) → Option OrderTree → Option (Beside Term) → Option (Beside Term) → OpenQuery → Beside OpenQuery
  clauses select_of where_of order limit offset query binds =
      onward (select_of query binds) (λ selected.
      onward (filtered where_of selected.0 selected.1) (λ found.
      onward (with_keys_of order found.0 found.1) (λ ordered.
      onward (limited limit ordered.0 ordered.1) (λ first.
      skipped offset first.0 first.1))))

  abbrev pub query_from : QueryTree-F (Walk Typed) NewWalk PartWalk BindWalk (ℕ → Beside Cond) (Beside Term) (Primitive → Beside Terms) SelWalk SelWalk (Primitive → Beside Term) FieldWalk ItemWalk OperandWalk QueryWalk → ℕ → Beside Query
  query_from q object binds =
      onward (clauses q.select q.«cond» q.order q.limit q.offset (opened object) binds) (λ r. Gives (closed_query r.0 q.locked, r.1))

  abbrev pub query_step : QueryTree-F (Walk Typed) NewWalk PartWalk BindWalk (ℕ → Beside Cond) (Beside Term) (Primitive → Beside Terms) SelWalk SelWalk (Primitive → Beside Term) FieldWalk ItemWalk OperandWalk QueryWalk → QueryWalk
  query_step q = record { object = q.object; from = query_from q }

  -- ---- the folds

  -- an expression that may be a name before a dot, of a class and its like, or `super`
  abbrev pub bare : Expr → Walk Typed
  bare = fold-Expr (Walk Typed) NewWalk PartWalk BindWalk (ℕ → Beside Cond) (Beside Term) (Primitive → Beside Terms) SelWalk SelWalk (Primitive → Beside Term) FieldWalk ItemWalk OperandWalk QueryWalk expr_step new_step part_step bind_step cond_step count_step list_step sel_step select_step value_step field_step item_step operand_step query_step

  abbrev pub new_part : NewPart → NewWalk
  new_part = fold-NewPart (Walk Typed) NewWalk PartWalk BindWalk (ℕ → Beside Cond) (Beside Term) (Primitive → Beside Terms) SelWalk SelWalk (Primitive → Beside Term) FieldWalk ItemWalk OperandWalk QueryWalk expr_step new_step part_step bind_step cond_step count_step list_step sel_step select_step value_step field_step item_step operand_step query_step

  abbrev pub part : PostfixPart → PartWalk
  part = fold-PostfixPart (Walk Typed) NewWalk PartWalk BindWalk (ℕ → Beside Cond) (Beside Term) (Primitive → Beside Terms) SelWalk SelWalk (Primitive → Beside Term) FieldWalk ItemWalk OperandWalk QueryWalk expr_step new_step part_step bind_step cond_step count_step list_step sel_step select_step value_step field_step item_step operand_step query_step

  abbrev pub bind : BindTree → BindWalk
  bind = fold-BindTree (Walk Typed) NewWalk PartWalk BindWalk (ℕ → Beside Cond) (Beside Term) (Primitive → Beside Terms) SelWalk SelWalk (Primitive → Beside Term) FieldWalk ItemWalk OperandWalk QueryWalk expr_step new_step part_step bind_step cond_step count_step list_step sel_step select_step value_step field_step item_step operand_step query_step

  abbrev pub condition : CondTree → ℕ → Beside Cond
  condition = fold-CondTree (Walk Typed) NewWalk PartWalk BindWalk (ℕ → Beside Cond) (Beside Term) (Primitive → Beside Terms) SelWalk SelWalk (Primitive → Beside Term) FieldWalk ItemWalk OperandWalk QueryWalk expr_step new_step part_step bind_step cond_step count_step list_step sel_step select_step value_step field_step item_step operand_step query_step

  abbrev pub count : CountTree → Beside Term
  count = fold-CountTree (Walk Typed) NewWalk PartWalk BindWalk (ℕ → Beside Cond) (Beside Term) (Primitive → Beside Terms) SelWalk SelWalk (Primitive → Beside Term) FieldWalk ItemWalk OperandWalk QueryWalk expr_step new_step part_step bind_step cond_step count_step list_step sel_step select_step value_step field_step item_step operand_step query_step

  abbrev pub list : ListTree → Primitive → Beside Terms
  list = fold-ListTree (Walk Typed) NewWalk PartWalk BindWalk (ℕ → Beside Cond) (Beside Term) (Primitive → Beside Terms) SelWalk SelWalk (Primitive → Beside Term) FieldWalk ItemWalk OperandWalk QueryWalk expr_step new_step part_step bind_step cond_step count_step list_step sel_step select_step value_step field_step item_step operand_step query_step

  abbrev pub sel : SelTree → SelWalk
  sel = fold-SelTree (Walk Typed) NewWalk PartWalk BindWalk (ℕ → Beside Cond) (Beside Term) (Primitive → Beside Terms) SelWalk SelWalk (Primitive → Beside Term) FieldWalk ItemWalk OperandWalk QueryWalk expr_step new_step part_step bind_step cond_step count_step list_step sel_step select_step value_step field_step item_step operand_step query_step

  abbrev pub select : SelectTree → SelWalk
  select = fold-SelectTree (Walk Typed) NewWalk PartWalk BindWalk (ℕ → Beside Cond) (Beside Term) (Primitive → Beside Terms) SelWalk SelWalk (Primitive → Beside Term) FieldWalk ItemWalk OperandWalk QueryWalk expr_step new_step part_step bind_step cond_step count_step list_step sel_step select_step value_step field_step item_step operand_step query_step

  abbrev pub value : ValueTree → Primitive → Beside Term
  value = fold-ValueTree (Walk Typed) NewWalk PartWalk BindWalk (ℕ → Beside Cond) (Beside Term) (Primitive → Beside Terms) SelWalk SelWalk (Primitive → Beside Term) FieldWalk ItemWalk OperandWalk QueryWalk expr_step new_step part_step bind_step cond_step count_step list_step sel_step select_step value_step field_step item_step operand_step query_step

  abbrev pub field : FieldValue → FieldWalk
  field = fold-FieldValue (Walk Typed) NewWalk PartWalk BindWalk (ℕ → Beside Cond) (Beside Term) (Primitive → Beside Terms) SelWalk SelWalk (Primitive → Beside Term) FieldWalk ItemWalk OperandWalk QueryWalk expr_step new_step part_step bind_step cond_step count_step list_step sel_step select_step value_step field_step item_step operand_step query_step

  abbrev pub item : NewItem → ItemWalk
  item = fold-NewItem (Walk Typed) NewWalk PartWalk BindWalk (ℕ → Beside Cond) (Beside Term) (Primitive → Beside Terms) SelWalk SelWalk (Primitive → Beside Term) FieldWalk ItemWalk OperandWalk QueryWalk expr_step new_step part_step bind_step cond_step count_step list_step sel_step select_step value_step field_step item_step operand_step query_step

  abbrev pub operand : Operand → OperandWalk
  operand = fold-Operand (Walk Typed) NewWalk PartWalk BindWalk (ℕ → Beside Cond) (Beside Term) (Primitive → Beside Terms) SelWalk SelWalk (Primitive → Beside Term) FieldWalk ItemWalk OperandWalk QueryWalk expr_step new_step part_step bind_step cond_step count_step list_step sel_step select_step value_step field_step item_step operand_step query_step

  abbrev pub query : QueryTree → QueryWalk
  query = fold-QueryTree (Walk Typed) NewWalk PartWalk BindWalk (ℕ → Beside Cond) (Beside Term) (Primitive → Beside Terms) SelWalk SelWalk (Primitive → Beside Term) FieldWalk ItemWalk OperandWalk QueryWalk expr_step new_step part_step bind_step cond_step count_step list_step sel_step select_step value_step field_step item_step operand_step query_step

  -- an expression that is a value
  abbrev pub expression : Expr → Walk Typed
  expression t = valued (bare t)

  -- the clauses of a query from its tree
  abbrev pub clauses_of : QueryTree → OpenQuery → Beside OpenQuery
  clauses_of t =
      clauses (select (out-QueryTree t).select) (option_map condition (out-QueryTree t).«cond») (out-QueryTree t).order
      (option_map count (out-QueryTree t).limit) (option_map count (out-QueryTree t).offset)
