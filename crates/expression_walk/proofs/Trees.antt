-- What trees come to, by their parts.
use Rattle.std.proofs.Common.{◌≡◌, refl, ℕ, List, [], ◌∷◌, map, length, sym, ap, ◌∙◌, subst, Option, None, Some, option_map, Result, Err}
use Rattle.std.proofs.lemmas.List.{length-map}
use Rattle.apex_rows.specs.declared.query.Cond.{Cond}
use Rattle.apex_rows.specs.declared.query.Query.{Query}
use Rattle.apex_rows.specs.declared.query.Term.{Term}
use Rattle.apex_rows.specs.declared.query.Terms.{Terms}
use Rattle.apex_syntax.specs.declared.expr.Expr.{Expr}
use Rattle.apex_syntax.specs.declared.expr.Expr.TheOpen.{Expr-F, PostfixPart-F, QueryTree-F}
use Rattle.apex_syntax.specs.declared.expr.Expr.TheFolds.{fold-roll-Expr, fold-roll-PostfixPart, fold-roll-QueryTree, map-QueryTree}
use Rattle.apex_syntax.specs.declared.expr.Expr.TheVariants.{Call, rolls-Call}
use Rattle.apex_syntax.specs.declared.expr.Expr.TheViews.{out-QueryTree, roll-out-QueryTree}
use Rattle.apex_syntax.specs.declared.expr.FieldValue.{FieldValue}
use Rattle.apex_syntax.specs.declared.expr.NewItem.{NewItem}
use Rattle.apex_syntax.specs.declared.expr.NewPart.{NewPart}
use Rattle.apex_syntax.specs.declared.expr.Operand.{Operand}
use Rattle.apex_syntax.specs.declared.expr.PostfixPart.{PostfixPart}
use Rattle.apex_syntax.specs.declared.expr.PostfixPart.TheVariants as P
use Rattle.apex_syntax.specs.declared.query.BindTree.{BindTree}
use Rattle.apex_syntax.specs.declared.query.CondTree.{CondTree}
use Rattle.apex_syntax.specs.declared.query.CountTree.{CountTree}
use Rattle.apex_syntax.specs.declared.query.ListTree.{ListTree}
use Rattle.apex_syntax.specs.declared.query.QueryTree.{QueryTree}
use Rattle.apex_syntax.specs.declared.query.SelTree.{SelTree}
use Rattle.apex_syntax.specs.declared.query.SelectTree.{SelectTree}
use Rattle.apex_syntax.specs.declared.query.ValueTree.{ValueTree}
use Rattle.apex_syntax.specs.declared.word.Word.{Word}
use Rattle.apex_text.specs.declared.place.Span.{Span}
use Rattle.expression_walk.specs.Expressions.{NewWalk, PartWalk, OperandWalk, FieldWalk, ItemWalk, BindWalk, SelWalk, QueryWalk, expr_step, new_step, part_step, bind_step, cond_step, count_step, list_step, sel_step, select_step, value_step, field_step, item_step, operand_step, query_step, bare, expression, clauses, clauses_of, select, count, new_part, bind, field, item, part, operand, condition, list, value, sel, query, call_alone, call_on, made_by}
use Rattle.expression_walk.specs.Leaves.{called, own_receiver, valued}
use Rattle.expression_walk.specs.Views.{Sight}
use Rattle.expression_walk.proofs.Steps.{goes, halts, same}
use Rattle.method_calls.specs.Callees.{called_alone, called_on}
use Rattle.method_calls.specs.declared.callee.Callee.{Callee}
use Rattle.query_terms.specs.Besides.{Beside}
use Rattle.query_terms.specs.OpenQueries.{opened, closed_query}
use Rattle.static_types.specs.declared.kind.ValueType.{ValueType}
use Rattle.static_types.specs.declared.kind.ValueType.TheViews.{out-ValueType}
use Rattle.typed_calls.specs.Made.{made_with}
use Rattle.typed_calls.specs.Makers.{maker_of}
use Rattle.typed_calls.specs.declared.maker.Maker.{Maker}
use Rattle.query_terms.specs.declared.open.OpenQuery.{OpenQuery}
use Rattle.static_types.specs.declared.kind.Primitive.{Primitive}
use Rattle.type_names.specs.declared.fault.WalkFault.{WalkFault}
use Rattle.type_names.specs.Walks.{Walk, Gives, Comes, Fails, onward, all}
use Rattle.typed_program.specs.declared.expr.TypedBind.{TypedBind}
use Rattle.typed_values.specs.declared.typed.Typed.{Typed}

module _ (s : Sight) where
  -- values of expressions, one by one
  values_are : (xs : List Expr) → map valued (map (bare s) xs) ≡ map (expression s) xs
  values_are [] = refl
  values_are (x ∷ xs) = ap (λ l. expression s x ∷ l) (values_are xs)

  pub call_is : (t : Expr) (sp : Span) (w : Word) (args : List Expr) → t ≡ Call sp w args → bare s t ≡ call_alone s w.span.from w (map (bare s) args)
  call_is t sp w args e = ap (bare s) (e ∙ sym (rolls-Call sp w args)) ∙ fold-roll-Expr (Walk Typed) NewWalk PartWalk BindWalk (ℕ → Beside Cond) (Beside Term) (Primitive → Beside Terms) SelWalk SelWalk (Primitive → Beside Term) FieldWalk ItemWalk OperandWalk QueryWalk (expr_step s) (new_step s) (part_step s) (bind_step s) (cond_step s) (count_step s) (list_step s) (sel_step s) (select_step s) (value_step s) (field_step s) (item_step s) (operand_step s) (query_step s) (Expr-F.«Expr::Call» sp w args)

  pub call_part_is : (t : PostfixPart) (sp : Span) (w : Word) (args : List Expr) → t ≡ P.Call sp w args → part s t ≡ call_on s w (map (bare s) args)
  call_part_is t sp w args e = ap (part s) (e ∙ sym (P.rolls-Call sp w args)) ∙ fold-roll-PostfixPart (Walk Typed) NewWalk PartWalk BindWalk (ℕ → Beside Cond) (Beside Term) (Primitive → Beside Terms) SelWalk SelWalk (Primitive → Beside Term) FieldWalk ItemWalk OperandWalk QueryWalk (expr_step s) (new_step s) (part_step s) (bind_step s) (cond_step s) (count_step s) (list_step s) (sel_step s) (select_step s) (value_step s) (field_step s) (item_step s) (operand_step s) (query_step s) (PostfixPart-F.«PostfixPart::Call» sp w args)

  pub call_comes : (t : Expr) (sp : Span) (w : Word) (args : List Expr) (n : ℕ) (callee : Callee) (values : List Typed) (this : Typed) (r : Result Typed WalkFault) → t ≡ Call sp w args → n ≡ length args
      → called_alone s.around s.methods w n ≡ Gives callee → all (map (expression s) args) ≡ Gives values → this ≡ own_receiver s.around.class w.span.from → Comes (called s.around this callee w.span.from values) r → Comes (bare s t) r
  call_comes t sp w args n callee values this r e count found given own h =
      same _ _ r (call_is t sp w args e)
      (goes _ _ callee r (ap (called_alone s.around s.methods w) (length-map args (bare s) ∙ sym count) ∙ found)
      (goes _ _ values r (ap all (values_are args) ∙ given) (subst (λ x. Comes (called s.around x callee w.span.from values) r) own h)))

  pub call_fails : (t : Expr) (sp : Span) (w : Word) (args : List Expr) (n : ℕ) (callee : Callee) (fault : WalkFault) → t ≡ Call sp w args → n ≡ length args
      → called_alone s.around s.methods w n ≡ Gives callee → Fails (all (map (expression s) args)) fault → Comes (bare s t) (Err fault)
  call_fails t sp w args n callee fault e count found h =
      same _ _ (Err fault) (call_is t sp w args e)
      (goes _ _ callee (Err fault) (ap (called_alone s.around s.methods w) (length-map args (bare s) ∙ sym count) ∙ found)
      (halts _ _ fault (subst (λ l. Fails (all l) fault) (sym (values_are args)) h)))

  pub call_part_comes : (t : PostfixPart) (sp : Span) (w : Word) (args : List Expr) (n : ℕ) (value : Typed) (callee : Callee) (values : List Typed) (r : Result Typed WalkFault) → t ≡ P.Call sp w args → n ≡ length args
      → called_on s.around s.methods value w n ≡ Gives callee → all (map (expression s) args) ≡ Gives values → Comes (called s.around value callee w.span.from values) r → Comes (part s t value) r
  call_part_comes t sp w args n value callee values r e count found given h =
      same _ _ r (ap (λ f. f value) (call_part_is t sp w args e))
      (goes _ _ callee r (ap (called_on s.around s.methods value w) (length-map args (bare s) ∙ sym count) ∙ found)
      (goes _ _ values r (ap all (values_are args) ∙ given) h))

  pub call_part_fails : (t : PostfixPart) (sp : Span) (w : Word) (args : List Expr) (n : ℕ) (value : Typed) (callee : Callee) (fault : WalkFault) → t ≡ P.Call sp w args → n ≡ length args
      → called_on s.around s.methods value w n ≡ Gives callee → Fails (all (map (expression s) args)) fault → Comes (part s t value) (Err fault)
  call_part_fails t sp w args n value callee fault e count found h =
      same _ _ (Err fault) (ap (λ f. f value) (call_part_is t sp w args e))
      (goes _ _ callee (Err fault) (ap (called_on s.around s.methods value w) (length-map args (bare s) ∙ sym count) ∙ found)
      (halts _ _ fault (subst (λ l. Fails (all l) fault) (sym (values_are args)) h)))

  pub made_comes : (at type_at : ℕ) (kind : ValueType) (args : List Expr) (n : ℕ) (maker : Maker) (values : List Typed) (r : Result Typed WalkFault) → n ≡ length args
      → maker_of s.around (out-ValueType kind) type_at n ≡ Gives maker → all (map (expression s) args) ≡ Gives values → Comes (made_with s.around at kind maker type_at values) r
      → Comes (made_by s at type_at kind (map (bare s) args)) r
  made_comes at type_at kind args n maker values r count found given h =
      goes _ _ maker r (ap (maker_of s.around (out-ValueType kind) type_at) (length-map args (bare s) ∙ sym count) ∙ found)
      (goes _ _ values r (ap all (values_are args) ∙ given) h)

  pub made_fails : (at type_at : ℕ) (kind : ValueType) (args : List Expr) (n : ℕ) (maker : Maker) (fault : WalkFault) → n ≡ length args
      → maker_of s.around (out-ValueType kind) type_at n ≡ Gives maker → Fails (all (map (expression s) args)) fault
      → Comes (made_by s at type_at kind (map (bare s) args)) (Err fault)
  made_fails at type_at kind args n maker fault count found h =
      goes _ _ maker (Err fault) (ap (maker_of s.around (out-ValueType kind) type_at) (length-map args (bare s) ∙ sym count) ∙ found)
      (halts _ _ fault (subst (λ l. Fails (all l) fault) (sym (values_are args)) h))

  abbrev mapped : QueryTree-F Expr NewPart PostfixPart BindTree CondTree CountTree ListTree SelTree SelectTree ValueTree FieldValue NewItem Operand QueryTree → QueryTree-F (Walk Typed) NewWalk PartWalk BindWalk (ℕ → Beside Cond) (Beside Term) (Primitive → Beside Terms) SelWalk SelWalk (Primitive → Beside Term) FieldWalk ItemWalk OperandWalk QueryWalk
  mapped x = map-QueryTree _ _ _ _ _ _ _ _ _ _ _ _ _ _ _ _ _ _ _ _ _ _ _ _ _ _ _ _ (bare s) (new_part s) (part s) (bind s) (condition s) (count s) (list s) (sel s) (select s) (value s) (field s) (item s) (operand s) (query s) x

  query_at : (t : QueryTree) → query s t ≡ query_step s (mapped (out-QueryTree t))
  query_at t = ap (query s) (sym (roll-out-QueryTree t)) ∙ fold-roll-QueryTree (Walk Typed) NewWalk PartWalk BindWalk (ℕ → Beside Cond) (Beside Term) (Primitive → Beside Terms) SelWalk SelWalk (Primitive → Beside Term) FieldWalk ItemWalk OperandWalk QueryWalk (expr_step s) (new_step s) (part_step s) (bind_step s) (cond_step s) (count_step s) (list_step s) (sel_step s) (select_step s) (value_step s) (field_step s) (item_step s) (operand_step s) (query_step s) (out-QueryTree t)

  abbrev with_parts : QueryTree → Option CondTree → Option CountTree → Option CountTree → QueryTree-F Expr NewPart PostfixPart BindTree CondTree CountTree ListTree SelTree SelectTree ValueTree FieldValue NewItem Operand QueryTree
  with_parts t c l o = record {
    span = (out-QueryTree t).span;
    select = (out-QueryTree t).select;
    object = (out-QueryTree t).object;
    «cond» = c;
    order = (out-QueryTree t).order;
    limit = l;
    offset = o;
    locked = (out-QueryTree t).locked;
  }

  cond_part : (t : QueryTree) (l o : Option CountTree) (c : Option CondTree) → (mapped (with_parts t c l o)).«cond» ≡ option_map (condition s) c
  cond_part t l o None = refl
  cond_part t l o (Some c) = refl

  limit_part : (t : QueryTree) (c : Option CondTree) (o : Option CountTree) (l : Option CountTree) → (mapped (with_parts t c l o)).limit ≡ option_map (count s) l
  limit_part t c o None = refl
  limit_part t c o (Some l) = refl

  offset_part : (t : QueryTree) (c : Option CondTree) (l : Option CountTree) (o : Option CountTree) → (mapped (with_parts t c l o)).offset ≡ option_map (count s) o
  offset_part t c l None = refl
  offset_part t c l (Some o) = refl

  query_is_parts : (t : QueryTree) (object : ℕ) (binds : List TypedBind)
      → (query s t).from object binds ≡ onward (clauses_of s t (opened object) binds) (λ r. Gives (closed_query r.0 (out-QueryTree t).locked, r.1))
  query_is_parts t object binds =
      let x = out-QueryTree t in
      let whole : Option (ℕ → Beside Cond) → Option (Beside Term) → Option (Beside Term) → Walk (Query × List TypedBind) = λ c l o. onward (clauses s (select s x.select) c x.order l o (opened object) binds) (λ r. Gives (closed_query r.0 x.locked, r.1)) in
      ap (λ (w : QueryWalk). w.from object binds) (query_at t)
      ∙ ap (λ c. whole c (mapped x).limit (mapped x).offset) (cond_part t x.limit x.offset x.«cond»)
      ∙ ap (λ l. whole (option_map (condition s) x.«cond») l (mapped x).offset) (limit_part t x.«cond» x.offset x.limit)
      ∙ ap (λ o. whole (option_map (condition s) x.«cond») (option_map (count s) x.limit) o) (offset_part t x.«cond» x.limit x.offset)

  pub query_parts : (t : QueryTree) (object : ℕ) (binds : List TypedBind) (begun : OpenQuery) → begun ≡ opened object
      → (query s t).from object binds ≡ onward (clauses_of s t begun binds) (λ r. Gives (closed_query r.0 (out-QueryTree t).locked, r.1))
  query_parts t object binds begun e =
      query_is_parts t object binds ∙ ap (λ b. onward (clauses_of s t b binds) (λ r. Gives (closed_query r.0 (out-QueryTree t).locked, r.1))) (sym e)
