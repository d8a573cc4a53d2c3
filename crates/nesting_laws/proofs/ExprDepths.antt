-- An expression that was read nests no deeper than there was room.
use Rattle.std.specs.Prelude.{◌≡◌, ◌≤◌, ◌++◌, ℕ, zero, suc, max, leb, List, [], ◌∷◌, Bool, true, false, Option, None, Some, option_map, map}
use Rattle.std.proofs.Common.{refl, sym, ap, arith, ◌∙◌}
use Rattle.std.proofs.Math.Nat.{le_trans, max-le, le-max_left, le-max_right}
use Rattle.std.proofs.lemmas.Bool.{leb-true}
use Rattle.apex_text.specs.declared.place.Span.{Span}
use Rattle.apex_lexer.specs.declared.token.Keyword.{Keyword}
use Rattle.apex_lexer.specs.declared.token.Keyword.TheVariants as W
use Rattle.apex_lexer.specs.declared.token.Sign.TheVariants as S
use Rattle.apex_lexer.specs.declared.token.TokenKind.{TokenKind}
use Rattle.apex_lexer.specs.declared.token.TokenKind.TheVariants as K
use Rattle.apex_syntax.specs.Depths.{most, some, opened, type_depth, expr_depth, new_depth, part_depth, bind_depth, field_depth, item_depth, operand_depth, query_depth}
use Rattle.apex_syntax.specs.declared.expr.AssignOp.{AssignOp}
use Rattle.apex_syntax.specs.declared.expr.BinaryOp.{BinaryOp}
use Rattle.apex_syntax.specs.declared.expr.Expr.{Expr}
use Rattle.apex_syntax.specs.declared.expr.Expr.TheOpen.{Expr-F, NewPart-F, PostfixPart-F, BindTree-F}
use Rattle.apex_syntax.specs.declared.expr.Expr.TheVariants as E
use Rattle.apex_syntax.specs.declared.expr.FieldValue.{FieldValue}
use Rattle.apex_syntax.specs.declared.expr.Literal.{Literal}
use Rattle.apex_syntax.specs.declared.expr.Literal.TheVariants as L
use Rattle.apex_syntax.specs.declared.expr.NewItem.{NewItem}
use Rattle.apex_syntax.specs.declared.expr.NewPart.{NewPart}
use Rattle.apex_syntax.specs.declared.expr.NewPart.TheVariants as N
use Rattle.apex_syntax.specs.declared.expr.Operand.{Operand}
use Rattle.apex_syntax.specs.declared.expr.PostfixPart.{PostfixPart}
use Rattle.apex_syntax.specs.declared.expr.PostfixPart.TheVariants as P
use Rattle.apex_syntax.specs.declared.expr.PrefixOp.{PrefixOp}
use Rattle.apex_syntax.specs.declared.expr.StepOp.{StepOp}
use Rattle.apex_syntax.specs.declared.expr.StepOp.TheVariants as T
use Rattle.apex_syntax.specs.declared.expr.TypeTree.{TypeTree}
use Rattle.apex_syntax.specs.declared.query.BindTree.{BindTree}
use Rattle.apex_syntax.specs.declared.query.BindTree.TheVariants as B
use Rattle.apex_syntax.specs.declared.query.NumberTree.TheVariants as M
use Rattle.apex_syntax.specs.declared.query.QueryTree.{QueryTree}
use Rattle.apex_syntax.specs.declared.word.Word.{Word}
use Rattle.token_grammar.specs.declared.fault.ParseWord.TheVariants.{TooDeep}
use Rattle.token_grammar.specs.Literals.{literal_bytes}
use Rattle.token_grammar.specs.Notation.{Rule, span}
use Rattle.token_grammar.specs.Tokens.{refuse_here}
use Rattle.nesting_laws.proofs.Keeps.{Keeps, gives, refuses, taken, always, first, past, either, wider, many, maybe, opens_sign, opened_within, is_within, no_depth, refused_here, inside_is}
use Rattle.nesting_laws.proofs.Layers.{expr_made, new_made, part_made, bind_made, field_made, item_made, operand_made}
use Rattle.nesting_laws.proofs.QueryDepths.{query_within}
use Rattle.soql_parse.specs.Queries.{query}
use Rattle.apex_parse_leaf.specs.declared.level.Level.{Level}
use Rattle.apex_parse_leaf.specs.declared.level.Level.TheVariants as V
use Rattle.apex_parse_leaf.specs.Types.{type}
use Rattle.apex_parse_leaf.specs.Leaves.{simple_kind, word_expr, step_kind, open_prefix, open_assign}
use Rattle.nesting_laws.proofs.TypeDepths.{type_within, deeper_type_within}
use Rattle.apex_parse_expr.specs.declared.part.Part.{Part}
use Rattle.apex_parse_expr.specs.Exprs.{args, named, field, fields, item, items, new_part, primary, part, parts, stepped, postfixed, postfix, bind_with, unary_with, link, chained, chain, order, products, sums, orders, equalities, conjunctions, disjunctions, pick, expr_rest, expr_with, unary, expr, binds, deeper_expr}

-- ---- trees

literal_flat : (s : Span) (l : Literal) → expr_depth (E.Literal s l) ≡ 0
literal_flat s l = ap expr_depth (sym (E.rolls-Literal s l)) ∙ expr_made (Expr-F.Literal s l)

this_flat : (s : Span) → expr_depth (E.This s) ≡ 0
this_flat s = ap expr_depth (sym (E.rolls-This s)) ∙ expr_made (Expr-F.This s)

super_flat : (s : Span) → expr_depth (E.Super s) ≡ 0
super_flat s = ap expr_depth (sym (E.rolls-Super s)) ∙ expr_made (Expr-F.Super s)

name_flat : (w : Word) → expr_depth (E.Name w) ≡ 0
name_flat w = ap expr_depth (sym (E.rolls-Name w)) ∙ expr_made (Expr-F.Name w)

call_is : (s : Span) (w : Word) (xs : List Expr) → expr_depth (E.Call s w xs) ≡ opened (most (map expr_depth xs))
call_is s w xs = ap expr_depth (sym (E.rolls-Call s w xs)) ∙ expr_made (Expr-F.«Expr::Call» s w xs)

paren_is : (s : Span) (x : Expr) → expr_depth (E.Paren s x) ≡ opened (expr_depth x)
paren_is s x = ap expr_depth (sym (E.rolls-Paren s x)) ∙ expr_made (Expr-F.«Expr::Paren» s x)

new_is : (s : Span) (t : TypeTree) (p : NewPart) → expr_depth (E.New s t p) ≡ max (type_depth t) (new_depth p)
new_is s t p = ap expr_depth (sym (E.rolls-New s t p)) ∙ expr_made (Expr-F.New s t p)

query_is : (s : Span) (q : QueryTree) → expr_depth (E.Query s q) ≡ opened (query_depth q)
query_is s q = ap expr_depth (sym (E.rolls-Query s q)) ∙ expr_made (Expr-F.«Expr::Query» s q)

postfix_is : (s : Span) (x : Expr) (ps : List PostfixPart) → expr_depth (E.Postfix s x ps) ≡ max (expr_depth x) (most (map part_depth ps))
postfix_is s x ps = ap expr_depth (sym (E.rolls-Postfix s x ps)) ∙ expr_made (Expr-F.Postfix s x ps)

prefix_is : (s : Span) (o : PrefixOp) (x : Expr) → expr_depth (E.Prefix s o x) ≡ opened (expr_depth x)
prefix_is s o x = ap expr_depth (sym (E.rolls-Prefix s o x)) ∙ expr_made (Expr-F.Prefix s o x)

cast_is : (s : Span) (t : TypeTree) (x : Expr) → expr_depth (E.Cast s t x) ≡ opened (max (type_depth t) (expr_depth x))
cast_is s t x = ap expr_depth (sym (E.rolls-Cast s t x)) ∙ expr_made (Expr-F.Cast s t x)

chain_is : (s : Span) (x : Expr) (ys : List Operand) → expr_depth (E.Chain s x ys) ≡ max (expr_depth x) (most (map operand_depth ys))
chain_is s x ys = ap expr_depth (sym (E.rolls-Chain s x ys)) ∙ expr_made (Expr-F.Chain s x ys)

conditional_is : (s : Span) (c x y : Expr) → expr_depth (E.Conditional s c x y) ≡ max (expr_depth c) (opened (max (expr_depth x) (expr_depth y)))
conditional_is s c x y = ap expr_depth (sym (E.rolls-Conditional s c x y)) ∙ expr_made (Expr-F.Conditional s c x y)

assign_is : (s : Span) (x : Expr) (o : AssignOp) (v : Expr) → expr_depth (E.Assign s x o v) ≡ max (expr_depth x) (opened (expr_depth v))
assign_is s x o v = ap expr_depth (sym (E.rolls-Assign s x o v)) ∙ expr_made (Expr-F.Assign s x o v)

field_flat : (w : Word) → part_depth (P.Field w) ≡ 0
field_flat w = ap part_depth (sym (P.rolls-Field w)) ∙ part_made (PostfixPart-F.Field w)

call_part_is : (s : Span) (w : Word) (xs : List Expr) → part_depth (P.Call s w xs) ≡ opened (most (map expr_depth xs))
call_part_is s w xs = ap part_depth (sym (P.rolls-Call s w xs)) ∙ part_made (PostfixPart-F.«PostfixPart::Call» s w xs)

index_is : (s : Span) (x : Expr) → part_depth (P.Index s x) ≡ opened (expr_depth x)
index_is s x = ap part_depth (sym (P.rolls-Index s x)) ∙ part_made (PostfixPart-F.Index s x)

step_flat : (s : Span) (o : StepOp) → part_depth (P.Step s o) ≡ 0
step_flat s o = ap part_depth (sym (P.rolls-Step s o)) ∙ part_made (PostfixPart-F.Step s o)

args_is : (s : Span) (xs : List Expr) → new_depth (N.Args s xs) ≡ opened (most (map expr_depth xs))
args_is s xs = ap new_depth (sym (N.rolls-Args s xs)) ∙ new_made (NewPart-F.Args s xs)

fields_is : (s : Span) (fs : List FieldValue) → new_depth (N.Fields s fs) ≡ opened (most (map field_depth fs))
fields_is s fs = ap new_depth (sym (N.rolls-Fields s fs)) ∙ new_made (NewPart-F.Fields s fs)

items_is : (s : Span) (xs : List NewItem) → new_depth (N.Items s xs) ≡ opened (most (map item_depth xs))
items_is s xs = ap new_depth (sym (N.rolls-Items s xs)) ∙ new_made (NewPart-F.«NewPart::Items» s xs)

bind_is : (s : Span) (x : Expr) → bind_depth (B.Expr s x) ≡ expr_depth x
bind_is s x = ap bind_depth (sym (B.rolls-Expr s x)) ∙ bind_made (BindTree-F.Expr s x)

field_is : (w : Word) (x : Expr) → field_depth (record { field = w; value = x }) ≡ expr_depth x
field_is w x = field_made (record { field = w; value = x })

operand_is : (o : BinaryOp) (x : Expr) → operand_depth (record { op = o; right = x }) ≡ expr_depth x
operand_is o x = operand_made (record { op = o; right = x })

item_within_parts : (x : Expr) (n : ℕ) (v : Option Expr) → expr_depth x ≤ n → some (option_map expr_depth v) ≤ n → item_depth (record { item = x; value = v }) ≤ n
item_within_parts x n None h j = is_within (item_made (record { item = x; value = None })) (max-le h j)
item_within_parts x n (Some v) h j = is_within (item_made (record { item = x; value = Some v })) (max-le h j)

-- ---- single tokens

word_flat : (s : Span) (k : Keyword) → some (option_map expr_depth (word_expr s k)) ≡ 0
word_flat s W.Abstract = refl
word_flat s W.Break = refl
word_flat s W.Catch = refl
word_flat s W.Class = refl
word_flat s W.Continue = refl
word_flat s W.Delete = refl
word_flat s W.Do = refl
word_flat s W.Else = refl
word_flat s W.Extends = refl
word_flat s W.False = literal_flat s (L.Bool false)
word_flat s W.Final = refl
word_flat s W.Finally = refl
word_flat s W.For = refl
word_flat s W.Global = refl
word_flat s W.If = refl
word_flat s W.Implements = refl
word_flat s W.Insert = refl
word_flat s W.Interface = refl
word_flat s W.New = refl
word_flat s W.Null = literal_flat s L.Null
word_flat s W.Override = refl
word_flat s W.Private = refl
word_flat s W.Protected = refl
word_flat s W.Public = refl
word_flat s W.Return = refl
word_flat s W.Static = refl
word_flat s W.Super = super_flat s
word_flat s W.This = this_flat s
word_flat s W.Throw = refl
word_flat s W.True = literal_flat s (L.Bool true)
word_flat s W.Try = refl
word_flat s W.Update = refl
word_flat s W.Upsert = refl
word_flat s W.Virtual = refl
word_flat s W.Void = refl
word_flat s W.While = refl
word_flat s W.Select = refl
word_flat s W.From = refl
word_flat s W.Where = refl
word_flat s W.And = refl
word_flat s W.Or = refl
word_flat s W.Not = refl
word_flat s W.In = refl
word_flat s W.Like = refl
word_flat s W.Order = refl
word_flat s W.By = refl
word_flat s W.Group = refl
word_flat s W.Limit = refl
word_flat s W.Offset = refl
word_flat s W.Asc = refl
word_flat s W.Desc = refl
word_flat s W.Nulls = refl
word_flat s W.After = refl
word_flat s W.Before = refl
word_flat s W.Count = refl
word_flat s W.First = refl
word_flat s W.Get = refl
word_flat s W.Inherited = refl
word_flat s W.Last = refl
word_flat s W.On = refl
word_flat s W.Set = refl
word_flat s W.Sharing = refl
word_flat s W.Trigger = refl
word_flat s W.With = refl
word_flat s W.Without = refl

simple_flat : (s : Span) (text : List ℕ) (k : TokenKind) → some (option_map expr_depth (simple_kind s text k)) ≡ 0
simple_flat s text K.Name = refl
simple_flat s text (K.Keyword k) = word_flat s k
simple_flat s text (K.Integer n) = literal_flat s (L.Number (M.Integer n))
simple_flat s text (K.Long n) = literal_flat s (L.Number (M.Long n))
simple_flat s text (K.Decimal n) = literal_flat s (L.Number (M.Decimal n))
simple_flat s text K.Quoted = literal_flat s (L.Text (literal_bytes text))
simple_flat s text (K.Date d) = refl
simple_flat s text (K.Moment m) = refl
simple_flat s text (K.Sign x) = refl
simple_flat s text K.End = refl

step_kind_flat : (s : Span) (k : TokenKind) → some (option_map part_depth (step_kind s k)) ≡ 0
step_kind_flat s K.Name = refl
step_kind_flat s (K.Keyword k) = refl
step_kind_flat s (K.Integer n) = refl
step_kind_flat s (K.Long n) = refl
step_kind_flat s (K.Decimal n) = refl
step_kind_flat s K.Quoted = refl
step_kind_flat s (K.Date d) = refl
step_kind_flat s (K.Moment m) = refl
step_kind_flat s K.End = refl
step_kind_flat s (K.Sign S.Identical) = refl
step_kind_flat s (K.Sign S.NotIdentical) = refl
step_kind_flat s (K.Sign S.Equal) = refl
step_kind_flat s (K.Sign S.Differs) = refl
step_kind_flat s (K.Sign S.AtMost) = refl
step_kind_flat s (K.Sign S.AtLeast) = refl
step_kind_flat s (K.Sign S.And) = refl
step_kind_flat s (K.Sign S.Or) = refl
step_kind_flat s (K.Sign S.Increment) = step_flat s T.Increment
step_kind_flat s (K.Sign S.Decrement) = step_flat s T.Decrement
step_kind_flat s (K.Sign S.AddTo) = refl
step_kind_flat s (K.Sign S.SubtractFrom) = refl
step_kind_flat s (K.Sign S.MultiplyBy) = refl
step_kind_flat s (K.Sign S.DivideBy) = refl
step_kind_flat s (K.Sign S.Arrow) = refl
step_kind_flat s (K.Sign S.Plus) = refl
step_kind_flat s (K.Sign S.Minus) = refl
step_kind_flat s (K.Sign S.Star) = refl
step_kind_flat s (K.Sign S.Slash) = refl
step_kind_flat s (K.Sign S.Less) = refl
step_kind_flat s (K.Sign S.More) = refl
step_kind_flat s (K.Sign S.Assign) = refl
step_kind_flat s (K.Sign S.Not) = refl
step_kind_flat s (K.Sign S.Question) = refl
step_kind_flat s (K.Sign S.Colon) = refl
step_kind_flat s (K.Sign S.Dot) = refl
step_kind_flat s (K.Sign S.Comma) = refl
step_kind_flat s (K.Sign S.Semicolon) = refl
step_kind_flat s (K.Sign S.OpenParen) = refl
step_kind_flat s (K.Sign S.CloseParen) = refl
step_kind_flat s (K.Sign S.OpenBracket) = refl
step_kind_flat s (K.Sign S.CloseBracket) = refl
step_kind_flat s (K.Sign S.OpenBrace) = refl
step_kind_flat s (K.Sign S.CloseBrace) = refl
step_kind_flat s (K.Sign S.At) = refl

-- a prefix operator or one that assigns is read only where a form may be opened
prefix_opens : (room : ℕ) → Keeps (open_prefix room) (λ o. (inside : ℕ) × (room ≡ suc inside))
prefix_opens zero = past (λ i. past (λ o. refuses))
prefix_opens (suc room) = always (λ o. (room, refl))

assign_opens : (room : ℕ) → Keeps (open_assign room) (λ o. (inside : ℕ) × (room ≡ suc inside))
assign_opens zero = past (λ i. past (λ o. refuses))
assign_opens (suc room) = always (λ o. (room, refl))

-- ---- parts behind others

-- a list with one part more, which opens nothing
with_last : (n : ℕ) (p : PostfixPart) (ps : List PostfixPart) → part_depth p ≤ n → most (map part_depth ps) ≤ n → most (map part_depth (ps ++ p ∷ [])) ≤ n
with_last n p [] h j = max-le h j
with_last n p (q ∷ ps) h j = max-le (le_trans (le-max_left (part_depth q) (most (map part_depth ps))) j) (with_last n p ps h (le_trans (le-max_right (part_depth q) (most (map part_depth ps))) j))

postfixed_within : (n : ℕ) (s : Span) (x : Expr) (ps : List PostfixPart) → expr_depth x ≤ n → most (map part_depth ps) ≤ n → expr_depth (postfixed s x ps) ≤ n
postfixed_within n s x [] h j = h
postfixed_within n s x (p ∷ ps) h j = is_within (postfix_is s x (p ∷ ps)) (max-le h j)

chained_within : (n : ℕ) (s : Span) (x : Part) (ys : List Operand) → expr_depth x.tree ≤ n → most (map operand_depth ys) ≤ n → expr_depth ((chained s x ys).tree) ≤ n
chained_within n s x [] h j = h
chained_within n s x (y ∷ ys) h j = is_within (chain_is s x.tree (y ∷ ys)) (max-le h j)

-- ---- the rules, where `e` and `q` read in a form that is opened

-- no more forms are opened in what is read in a form that is opened than may be, where `room` may be opened before it
abbrev pub InnerExpr : Rule Expr → ℕ → Type 0
InnerExpr e room = (inside : ℕ) → room ≡ suc inside → Keeps e (λ x. expr_depth x ≤ inside)

abbrev InnerPart : Rule Part → ℕ → Type 0
InnerPart u room = (inside : ℕ) → room ≡ suc inside → Keeps u (λ x. expr_depth x.tree ≤ inside)

abbrev InnerQuery : Rule QueryTree → ℕ → Type 0
InnerQuery q room = (inside : ℕ) → room ≡ suc inside → Keeps q (λ x. query_depth x ≤ inside)

module _ (room : ℕ) (e : Rule Expr) (k : InnerExpr e room) where
  pub args_within : Keeps (args room e) (λ xs. opened (most (map expr_depth xs)) ≤ room)
  args_within =
      first (opens_sign S.OpenParen room) (λ inside o.
      first {Q = λ xs. most (map expr_depth xs) ≤ inside} (either (gives (omega arith)) (first (k inside o) (λ x h. first (many expr_depth (past (λ u. k inside o))) (λ xs j. gives (max-le h j)))))
      (λ xs j. past (λ u. gives (opened_within j o))))

  named_within : Keeps (named room e) (λ x. expr_depth x ≤ room)
  named_within =
      past (λ i. past (λ x. either (first args_within (λ xs h. past (λ s. gives (is_within (call_is s x xs) h)))) (gives (no_depth (name_flat x)))))

  fields_within : Keeps (fields room e) (λ p. new_depth p ≤ room)
  fields_within =
      past (λ i. first (opens_sign S.OpenParen room) (λ inside o. first (one_field inside o) (λ f h.
      first {Q = λ fs. most (map field_depth fs) ≤ inside} (first (many field_depth (past (λ u. one_field inside o))) (λ fs j. gives (max-le h j)))
      (λ fs j. past (λ u. past (λ s. gives (is_within (fields_is s fs) (opened_within j o))))))))
    where
      one_field : (inside : ℕ) → room ≡ suc inside → Keeps (field e) (λ f. field_depth f ≤ inside)
      one_field inside o = past (λ x. past (λ u. first (k inside o) (λ v h. gives (is_within (field_is x v) h))))

  items_within : Keeps (items room e) (λ p. new_depth p ≤ room)
  items_within =
      past (λ i. first (opens_sign S.OpenBrace room) (λ inside o.
      first {Q = λ xs. most (map item_depth xs) ≤ inside} (either (gives (omega arith)) (first (one_item inside o) (λ x h. first (many item_depth (past (λ u. one_item inside o))) (λ xs j. gives (max-le h j)))))
      (λ xs j. past (λ u. past (λ s. gives (is_within (items_is s xs) (opened_within j o)))))))
    where
      one_item : (inside : ℕ) → room ≡ suc inside → Keeps (item e) (λ x. item_depth x ≤ inside)
      one_item inside o = first (k inside o) (λ x h. first (maybe expr_depth (past (λ u. k inside o))) (λ v j. gives (item_within_parts x inside v h j)))

  new_part_within : Keeps (new_part room e) (λ p. new_depth p ≤ room)
  new_part_within = either fields_within (either items_within (past (λ i. first args_within (λ xs h. past (λ s. gives (is_within (args_is s xs) h))))))

  primary_within : (q : Rule QueryTree) (t : Rule TypeTree) → InnerQuery q room → Keeps t (λ x. type_depth x ≤ room) → Keeps (primary room e q t) (λ x. expr_depth x ≤ room)
  primary_within q t j m =
      either (past (λ i. past (λ u. first m (λ ty h. first new_part_within (λ p g. past (λ s. gives (is_within (new_is s ty p) (max-le h g))))))))
      (either (past (λ i. first (opens_sign S.OpenParen room) (λ inside o. first (k inside o) (λ x h. past (λ u. past (λ s. gives (is_within (paren_is s x) (opened_within h o))))))))
      (either (past (λ i. first (opens_sign S.OpenBracket room) (λ inside o. first (j inside o) (λ x h. past (λ u. past (λ s. gives (is_within (query_is s x) (opened_within h o))))))))
      (either named_within (taken expr_depth (λ t. simple_flat (span t) t.bytes t.kind)))))

  part_within : Keeps (part room e) (λ p. part_depth p ≤ room)
  part_within =
      either (past (λ u. past (λ i. past (λ x. either (first args_within (λ xs h. past (λ s. gives (is_within (call_part_is s x xs) h)))) (gives (no_depth (field_flat x)))))))
      (past (λ i. first (opens_sign S.OpenBracket room) (λ inside o. first (k inside o) (λ x h. past (λ u. past (λ s. gives (is_within (index_is s x) (opened_within h o))))))))

  parts_within : Keeps (parts room e) (λ ps. most (map part_depth ps) ≤ room)
  parts_within = many part_depth part_within

  stepped_within : (ps : List PostfixPart) → most (map part_depth ps) ≤ room → Keeps (stepped ps) (λ qs. most (map part_depth qs) ≤ room)
  stepped_within ps h = either (first {Q = λ p. part_depth p ≤ room} (taken part_depth (λ t. step_kind_flat (span t) t.kind)) (λ p j. gives (with_last room p ps j h))) (gives h)

  postfix_within : (q : Rule QueryTree) (t : Rule TypeTree) → InnerQuery q room → Keeps t (λ x. type_depth x ≤ room) → Keeps (postfix room e q t) (λ x. expr_depth x ≤ room)
  postfix_within q t j m =
      past (λ i. first (primary_within q t j m) (λ x h. first parts_within (λ ps g. first (stepped_within ps g) (λ qs f. past (λ s. gives (postfixed_within room s x qs h f))))))

  bind_with_within : Keeps (bind_with room e) (λ b. bind_depth b ≤ room)
  bind_with_within =
      past (λ i. past (λ u.
      first {Q = λ x. expr_depth x ≤ room} (past (λ j. first named_within (λ x h. first parts_within (λ ps g. past (λ s. gives (postfixed_within room s x ps h g))))))
      (λ x h. past (λ s. gives (is_within (bind_is s x) h)))))

  unary_with_within : (q : Rule QueryTree) (u : Rule Part) → InnerQuery q room → InnerPart u room → Keeps (unary_with room e q u) (λ x. expr_depth x.tree ≤ room)
  unary_with_within q u j m =
      either (past (λ i. first (prefix_opens room) (λ o w. first (m w.0 w.1) (λ x h. past (λ s. gives (is_within (prefix_is s o x.tree) (opened_within h w.1)))))))
      (either (past (λ i. first (opens_sign S.OpenParen room) (λ inside o. first (deeper_type_within room inside o) (λ ty g. past (λ v. first (m inside o) (λ x h.
      past (λ s. gives (is_within (cast_is s ty x.tree) (opened_within (max-le g h) o)))))))))
      (first (postfix_within q (type room) j (type_within room)) (λ x h. gives h)))

  expr_rest_within : (i : ℕ) (x : Part) → expr_depth x.tree ≤ room → Keeps (expr_rest room e i x) (λ y. expr_depth y ≤ room)
  expr_rest_within i x h =
      either (first (opens_sign S.Question room) (λ inside o.
      first {Q = λ b. max (expr_depth b.one) (expr_depth b.other) ≤ inside} (first (k inside o) (λ a f. past (λ u. first (k inside o) (λ b g. gives (max-le f g)))))
      (λ b f. past (λ s. gives (is_within (conditional_is s x.tree b.one b.other) (max-le h (opened_within f o)))))))
      (either (first (assign_opens room) (λ o w. first (k w.0 w.1) (λ v f. past (λ s. gives (is_within (assign_is s x.tree o v) (max-le h (opened_within f w.1)))))))
      (gives h))

-- ---- operators between operands

module _ (n : ℕ) where
  link_within : (l : Level) (u : Rule Part) → Keeps u (λ x. expr_depth x.tree ≤ n) → Keeps (link l u) (λ y. operand_depth y ≤ n)
  link_within l u k = past (λ o. first k (λ r h. gives (is_within (operand_is o r.tree) h)))

  chain_within : (l : Level) (u : Rule Part) → Keeps u (λ x. expr_depth x.tree ≤ n) → Keeps (chain l u) (λ x. expr_depth x.tree ≤ n)
  chain_within l u k = past (λ i. first k (λ x h. first (many operand_depth (link_within l u k)) (λ ys j. past (λ s. gives (chained_within n s x ys h j)))))

  order_within : (u : Rule Part) → Keeps u (λ x. expr_depth x.tree ≤ n) → Keeps (order u) (λ x. expr_depth x.tree ≤ n)
  order_within u k = past (λ i. first k (λ x h. either (first (link_within V.Order u k) (λ y j. past (λ s. gives (chained_within n s x (y ∷ []) h (max-le j (omega arith)))))) (gives h)))

  disjunctions_within : (u : Rule Part) → Keeps u (λ x. expr_depth x.tree ≤ n) → Keeps (disjunctions u) (λ x. expr_depth x.tree ≤ n)
  disjunctions_within u k =
      let a = chain_within V.Product u k in
      let b = chain_within V.Sum (products u) a in
      let c = order_within (sums u) b in
      let d = chain_within V.Equal (orders u) c in
      chain_within V.Or (conjunctions u) (chain_within V.And (equalities u) d)

expr_with_within : (room : ℕ) (e : Rule Expr) (u : Rule Part) → InnerExpr e room → Keeps u (λ x. expr_depth x.tree ≤ room) → Keeps (expr_with room e u) (λ x. expr_depth x ≤ room)
expr_with_within room e u k m = past (λ i. first (disjunctions_within room u m) (λ x h. expr_rest_within room e k i x h))

-- ---- all three, where so many forms may be opened

picked_within : (b : Bool) (room inside : ℕ) (one other : Rule BindTree) → leb (suc room) inside ≡ b → Keeps one (λ x. bind_depth x ≤ suc room) → Keeps other (λ x. bind_depth x ≤ inside) → Keeps (pick b one other) (λ x. bind_depth x ≤ inside)
picked_within true room inside one other e h j = wider (λ x g. le_trans g (leb-true (suc room) inside e)) h
picked_within false room inside one other e h j = j

mutual
  unfolding unary expr binds

  unary_within : (room : ℕ) → Keeps (unary room) (λ x. expr_depth x.tree ≤ room)
  unary_within zero = unary_with_within zero (refuse_here TooDeep) (λ inside o. refused_here) (refuse_here TooDeep) (refuse_here TooDeep) (λ inside o. refused_here) (λ inside o. refused_here)
  unary_within (suc room) =
      unary_with_within (suc room) (expr room) (λ inside o. inside_is expr_depth o (expr_within room)) (query (binds room) room) (unary room)
      (λ inside o. inside_is query_depth o (query_within (binds room) (binds_within room) room)) (λ inside o. inside_is (λ x. expr_depth x.tree) o (unary_within room))

  pub expr_within : (room : ℕ) → Keeps (expr room) (λ x. expr_depth x ≤ room)
  expr_within zero =
      expr_with_within zero (refuse_here TooDeep) (unary_with zero (refuse_here TooDeep) (refuse_here TooDeep) (refuse_here TooDeep)) (λ inside o. refused_here)
      (unary_with_within zero (refuse_here TooDeep) (λ inside o. refused_here) (refuse_here TooDeep) (refuse_here TooDeep) (λ inside o. refused_here) (λ inside o. refused_here))
  expr_within (suc room) =
      expr_with_within (suc room) (expr room) (unary_with (suc room) (expr room) (query (binds room) room) (unary room)) (λ inside o. inside_is expr_depth o (expr_within room))
      (unary_with_within (suc room) (expr room) (λ inside o. inside_is expr_depth o (expr_within room)) (query (binds room) room) (unary room)
      (λ inside o. inside_is query_depth o (query_within (binds room) (binds_within room) room)) (λ inside o. inside_is (λ x. expr_depth x.tree) o (unary_within room)))

  binds_within : (room inside : ℕ) → Keeps (binds room inside) (λ b. bind_depth b ≤ inside)
  binds_within zero inside = wider (λ b h. le_trans h (omega arith)) (bind_with_within zero (refuse_here TooDeep) (λ i o. refused_here))
  binds_within (suc room) inside =
      picked_within (leb (suc room) inside) room inside (bind_with (suc room) (expr room)) (binds room inside) refl
      (bind_with_within (suc room) (expr room) (λ i o. inside_is expr_depth o (expr_within room))) (binds_within room inside)

pub deeper_expr_within : (room : ℕ) → InnerExpr (deeper_expr room) room
deeper_expr_within zero inside o = refused_here
deeper_expr_within (suc room) inside o = inside_is expr_depth o (expr_within room)
