-- The grammar of expressions (docs/language.md, "Expressions"), in the notation of token_grammar. Queries in brackets
-- are those of soql_parse, with expressions for their binds; types and what is one token are those of apex_parse_leaf.
use Rattle.std.specs.Prelude.{◌++◌, leb, ℕ, zero, suc, List, [], ◌∷◌, Bool, true, false}
use Rattle.apex_text.specs.declared.place.Span.{Span}
use Rattle.apex_lexer.specs.declared.token.Keyword.TheVariants.{New as NewWord}
use Rattle.apex_lexer.specs.declared.token.Sign.TheVariants.{Assign as AssignSign, Arrow, Question, Colon, Dot, Comma, OpenParen, CloseParen, OpenBracket, CloseBracket, OpenBrace, CloseBrace}
use Rattle.apex_syntax.specs.declared.word.Word.{Word}
use Rattle.apex_syntax.specs.declared.query.BindTree.{BindTree}
use Rattle.apex_syntax.specs.declared.query.BindTree.TheVariants.{Expr as Bound}
use Rattle.apex_syntax.specs.declared.query.QueryTree.{QueryTree}
use Rattle.apex_syntax.specs.declared.expr.TypeTree.{TypeTree}
use Rattle.apex_syntax.specs.declared.expr.AssignOp.{AssignOp}
use Rattle.apex_syntax.specs.declared.expr.Expr.{Expr}
use Rattle.apex_syntax.specs.declared.expr.Expr.TheVariants.{Name, Call, Paren, New, Query, Postfix, Prefix, Cast, Chain, Conditional, Assign}
use Rattle.apex_syntax.specs.declared.expr.Operand.{Operand}
use Rattle.apex_syntax.specs.declared.expr.PostfixPart.{PostfixPart}
use Rattle.apex_syntax.specs.declared.expr.PostfixPart.TheVariants.{Field, Call as CallPart, Index}
use Rattle.apex_syntax.specs.declared.expr.NewPart.{NewPart}
use Rattle.apex_syntax.specs.declared.expr.NewPart.TheVariants.{Args, Fields, Items}
use Rattle.apex_syntax.specs.declared.expr.FieldValue.{FieldValue}
use Rattle.apex_syntax.specs.declared.expr.NewItem.{NewItem}
use Rattle.token_grammar.specs.declared.fault.ParseWord.TheVariants.{TooDeep}
use Rattle.token_grammar.specs.declared.read.Names.TheVariants.{InCode, AllWords}
use Rattle.token_grammar.specs.Notation.{Rule, Give, Refuse, Here, Since, Then, Choose, Many}
use Rattle.token_grammar.specs.Tokens.{sign, word, name, next_sign, next_word, next_name, open_sign, optional, refuse_here}
use Rattle.soql_parse.specs.Queries.{query}
use Rattle.apex_parse_leaf.specs.declared.level.Level.{Level}
use Rattle.apex_parse_leaf.specs.declared.level.Level.TheVariants.{Or as OrLevel, And as AndLevel, Equal as EqualLevel, Order as OrderLevel, Sum as SumLevel, Product as ProductLevel}
use Rattle.apex_parse_leaf.specs.Types.{type, deeper_type}
use Rattle.apex_parse_leaf.specs.Casts.{next_cast}
use Rattle.apex_parse_leaf.specs.Leaves.{simple, step, next_step, next_part, next_fields, next_prefix, open_prefix, op, next_op, open_assign, next_assign}
use Rattle.apex_parse_expr.specs.declared.part.Part.{Part}
use Rattle.apex_parse_expr.specs.declared.part.Branches.{Branches}

-- ---- lists of expressions; `e` reads one in a form that is opened

abbrev pub comma_expr : Rule Expr → Rule Expr
comma_expr e = Then (sign Comma) (λ _. e)

abbrev pub more_exprs : Rule Expr → Expr → Rule (List Expr)
more_exprs e x = Then (Many (next_sign Comma) (comma_expr e)) (λ xs. Give (x ∷ xs))

abbrev pub some_exprs : Rule Expr → Rule (List Expr)
some_exprs e = Then e (λ x. more_exprs e x)

abbrev pub inner_args : Rule Expr → Rule (List Expr)
inner_args e = Choose (next_sign CloseParen) (Give []) (some_exprs e)

abbrev pub args : ℕ → Rule Expr → Rule (List Expr)
args room e = Then (open_sign OpenParen room) (λ _. Then (inner_args e) (λ xs. Then (sign CloseParen) (λ _. Give xs)))

-- ---- primary expressions

-- arguments behind a name that began at a place
abbrev pub call : ℕ → Rule Expr → ℕ → Word → Rule Expr
call room e i x = Then (args room e) (λ xs. Then (Since i) (λ s. Give (Call s x xs)))

abbrev pub named : ℕ → Rule Expr → Rule Expr
named room e = Then Here (λ i. Then (name InCode) (λ x. Choose (next_sign OpenParen) (call room e i x) (Give (Name x))))

abbrev pub paren : ℕ → Rule Expr → Rule Expr
paren room e =
    Then Here (λ i. Then (open_sign OpenParen room) (λ _. Then e (λ x. Then (sign CloseParen) (λ _. Then (Since i) (λ s. Give (Paren s x))))))

-- name = expr
abbrev pub field : Rule Expr → Rule FieldValue
field e = Then (name InCode) (λ x. Then (sign AssignSign) (λ _. Then e (λ v. Give (record { field = x; value = v }))))

abbrev pub comma_field : Rule Expr → Rule FieldValue
comma_field e = Then (sign Comma) (λ _. field e)

abbrev pub more_fields : Rule Expr → FieldValue → Rule (List FieldValue)
more_fields e f = Then (Many (next_sign Comma) (comma_field e)) (λ fs. Give (f ∷ fs))

abbrev pub fields : ℕ → Rule Expr → Rule NewPart
fields room e =
    Then Here (λ i. Then (open_sign OpenParen room) (λ _. Then (field e) (λ f. Then (more_fields e f) (λ fs. Then (sign CloseParen) (λ _.
    Then (Since i) (λ s. Give (Fields s fs)))))))

abbrev pub arrow_expr : Rule Expr → Rule Expr
arrow_expr e = Then (sign Arrow) (λ _. e)

abbrev pub item : Rule Expr → Rule NewItem
item e = Then e (λ x. Then (optional (next_sign Arrow) (arrow_expr e)) (λ v. Give (record { item = x; value = v })))

abbrev pub comma_item : Rule Expr → Rule NewItem
comma_item e = Then (sign Comma) (λ _. item e)

abbrev pub more_items : Rule Expr → NewItem → Rule (List NewItem)
more_items e x = Then (Many (next_sign Comma) (comma_item e)) (λ xs. Give (x ∷ xs))

abbrev pub some_items : Rule Expr → Rule (List NewItem)
some_items e = Then (item e) (λ x. more_items e x)

abbrev pub inner_items : Rule Expr → Rule (List NewItem)
inner_items e = Choose (next_sign CloseBrace) (Give []) (some_items e)

abbrev pub items : ℕ → Rule Expr → Rule NewPart
items room e =
    Then Here (λ i. Then (open_sign OpenBrace room) (λ _. Then (inner_items e) (λ xs. Then (sign CloseBrace) (λ _.
    Then (Since i) (λ s. Give (Items s xs))))))

abbrev pub new_args : ℕ → Rule Expr → Rule NewPart
new_args room e = Then Here (λ i. Then (args room e) (λ xs. Then (Since i) (λ s. Give (Args s xs))))

abbrev pub new_part : ℕ → Rule Expr → Rule NewPart
new_part room e = Choose next_fields (fields room e) (Choose (next_sign OpenBrace) (items room e) (new_args room e))

abbrev pub new_expr : ℕ → Rule Expr → Rule TypeTree → Rule Expr
new_expr room e t =
    Then Here (λ i. Then (word NewWord) (λ _. Then t (λ ty. Then (new_part room e) (λ p. Then (Since i) (λ s. Give (New s ty p))))))

-- `q` reads a query in a form that is opened
abbrev pub bracketed : ℕ → Rule QueryTree → Rule Expr
bracketed room q =
    Then Here (λ i. Then (open_sign OpenBracket room) (λ _. Then q (λ x. Then (sign CloseBracket) (λ _. Then (Since i) (λ s. Give (Query s x))))))

abbrev pub primary : ℕ → Rule Expr → Rule QueryTree → Rule TypeTree → Rule Expr
primary room e q t =
    Choose (next_word NewWord) (new_expr room e t)
    (Choose (next_sign OpenParen) (paren room e)
    (Choose (next_sign OpenBracket) (bracketed room q)
    (Choose (next_name InCode) (named room e) simple)))

-- ---- postfix expressions

abbrev pub call_part : ℕ → Rule Expr → ℕ → Word → Rule PostfixPart
call_part room e i x = Then (args room e) (λ xs. Then (Since i) (λ s. Give (CallPart s x xs)))

abbrev pub member_part : ℕ → Rule Expr → Rule PostfixPart
member_part room e =
    Then (sign Dot) (λ _. Then Here (λ i. Then (name AllWords) (λ x. Choose (next_sign OpenParen) (call_part room e i x) (Give (Field x)))))

abbrev pub index_part : ℕ → Rule Expr → Rule PostfixPart
index_part room e =
    Then Here (λ i. Then (open_sign OpenBracket room) (λ _. Then e (λ x. Then (sign CloseBracket) (λ _. Then (Since i) (λ s. Give (Index s x))))))

abbrev pub part : ℕ → Rule Expr → Rule PostfixPart
part room e = Choose (next_sign Dot) (member_part room e) (index_part room e)

abbrev pub parts : ℕ → Rule Expr → Rule (List PostfixPart)
parts room e = Many next_part (part room e)

-- what stands behind the parts, with the parts
abbrev pub stepped : List PostfixPart → Rule (List PostfixPart)
stepped ps = Choose next_step (Then step (λ p. Give (ps ++ p ∷ []))) (Give ps)

abbrev pub postfixed : Span → Expr → List PostfixPart → Expr
postfixed s x [] = x
postfixed s x (p ∷ ps) = Postfix s x (p ∷ ps)

abbrev pub postfix : ℕ → Rule Expr → Rule QueryTree → Rule TypeTree → Rule Expr
postfix room e q t =
    Then Here (λ i. Then (primary room e q t) (λ x. Then (parts room e) (λ ps. Then (stepped ps) (λ qs. Then (Since i) (λ s.
    Give (postfixed s x qs))))))

-- ---- binds of queries: a colon, and a postfix expression that begins with a name and ends without `++` and `--`

abbrev pub bound : ℕ → Rule Expr → Rule Expr
bound room e = Then Here (λ i. Then (named room e) (λ x. Then (parts room e) (λ ps. Then (Since i) (λ s. Give (postfixed s x ps)))))

abbrev pub bind_with : ℕ → Rule Expr → Rule BindTree
bind_with room e = Then Here (λ i. Then (sign Colon) (λ _. Then (bound room e) (λ x. Then (Since i) (λ s. Give (Bound s x)))))

-- ---- prefix operators and casts; `u` reads an operand in a form that is opened

-- what can't be the target of an assignment
abbrev pub closed : Expr → Part
closed x = record { tree = x; target = false }

abbrev pub prefixed : ℕ → Rule Part → Rule Part
prefixed room u =
    Then Here (λ i. Then (open_prefix room) (λ o. Then u (λ x. Then (Since i) (λ s. Give (closed (Prefix s o x.tree))))))

abbrev pub cast : ℕ → Rule Part → Rule TypeTree → Rule Part
cast room u t =
    Then Here (λ i. Then (open_sign OpenParen room) (λ _. Then t (λ ty. Then (sign CloseParen) (λ _. Then u (λ x. Then (Since i) (λ s.
    Give (closed (Cast s ty x.tree))))))))

abbrev pub target : ℕ → Rule Expr → Rule QueryTree → Rule TypeTree → Rule Part
target room e q t = Then (postfix room e q t) (λ x. Give (record { tree = x; target = true }))

-- an operand: `e`, `q` and `u` read in a form that is opened
abbrev pub unary_with : ℕ → Rule Expr → Rule QueryTree → Rule Part → Rule Part
unary_with room e q u =
    Choose next_prefix (prefixed room u) (Choose next_cast (cast room u (deeper_type room)) (target room e q (type room)))

-- ---- binary operators

abbrev pub link : Level → Rule Part → Rule Operand
link l operand = Then (op l) (λ o. Then operand (λ r. Give (record { op = o; right = r.tree })))

abbrev pub chained : Span → Part → List Operand → Part
chained s x [] = x
chained s x (y ∷ ys) = record { tree = Chain s x.tree (y ∷ ys); target = false }

abbrev pub links : Level → Rule Part → Rule (List Operand)
links l operand = Many (next_op l) (link l operand)

-- operands of one level with any number of its operators between them
abbrev pub chain : Level → Rule Part → Rule Part
chain l operand = Then Here (λ i. Then operand (λ x. Then (links l operand) (λ ys. Then (Since i) (λ s. Give (chained s x ys)))))

-- one operand, or two with an order between them
abbrev pub ordered : ℕ → Part → Rule Part → Rule Part
ordered i x operand = Then (link OrderLevel operand) (λ y. Then (Since i) (λ s. Give (chained s x (y ∷ []))))

abbrev pub order : Rule Part → Rule Part
order operand = Then Here (λ i. Then operand (λ x. Choose (next_op OrderLevel) (ordered i x operand) (Give x)))

-- each precedence; `u` reads an operand without a binary operator
abbrev pub products : Rule Part → Rule Part
products u = chain ProductLevel u

abbrev pub sums : Rule Part → Rule Part
sums u = chain SumLevel (products u)

abbrev pub orders : Rule Part → Rule Part
orders u = order (sums u)

abbrev pub equalities : Rule Part → Rule Part
equalities u = chain EqualLevel (orders u)

abbrev pub conjunctions : Rule Part → Rule Part
conjunctions u = chain AndLevel (equalities u)

abbrev pub disjunctions : Rule Part → Rule Part
disjunctions u = chain OrLevel (conjunctions u)

-- what stands between the operators of a level
abbrev pub operand : Level → Rule Part → Rule Part
operand ProductLevel u = u
operand SumLevel u = products u
operand OrderLevel u = sums u
operand EqualLevel u = orders u
operand AndLevel u = equalities u
operand OrLevel u = conjunctions u

-- how loosely a level binds
abbrev pub rank : Level → ℕ
rank ProductLevel = 0
rank SumLevel = 1
rank OrderLevel = 2
rank EqualLevel = 3
rank AndLevel = 4
rank OrLevel = 5

-- ---- expressions

-- the first rule where the test holds
abbrev pub pick : {A : Type 0} → Bool → Rule A → Rule A → Rule A
pick true a b = a
pick false a b = b

abbrev pub branches : Rule Expr → Rule Branches
branches e = Then e (λ a. Then (sign Colon) (λ _. Then e (λ b. Give (record { one = a; other = b }))))

abbrev pub conditional : ℕ → Rule Expr → ℕ → Expr → Rule Expr
conditional room e i x =
    Then (open_sign Question room) (λ _. Then (branches e) (λ b. Then (Since i) (λ s. Give (Conditional s x b.one b.other))))

abbrev pub assigned : ℕ → Rule Expr → ℕ → Expr → Rule Expr
assigned room e i x = Then (open_assign room) (λ o. Then e (λ v. Then (Since i) (λ s. Give (Assign s x o v))))

-- what stands behind the first operand of an expression that began at a place
abbrev pub expr_rest : ℕ → Rule Expr → ℕ → Part → Rule Expr
expr_rest room e i x =
    Choose (next_sign Question) (conditional room e i x.tree)
    (Choose (next_assign x.target) (assigned room e i x.tree) (Give x.tree))

abbrev pub expr_with : ℕ → Rule Expr → Rule Part → Rule Expr
expr_with room e u = Then Here (λ i. Then (disjunctions u) (λ x. expr_rest room e i x))

-- An expression, an operand and a bind, where so many forms may be opened. `binds room inside` is a bind where `inside`
-- more forms may be open, and never more than `room`. All three are by recursion on `room`.
unfoldable mutual
  pub unary : ℕ → Rule Part
  unary zero = unary_with zero (refuse_here TooDeep) (refuse_here TooDeep) (refuse_here TooDeep)
  unary (suc room) = unary_with (suc room) (expr room) (query (binds room) room) (unary room)

  pub expr : ℕ → Rule Expr
  expr zero = expr_with zero (refuse_here TooDeep) (unary_with zero (refuse_here TooDeep) (refuse_here TooDeep) (refuse_here TooDeep))
  expr (suc room) = expr_with (suc room) (expr room) (unary_with (suc room) (expr room) (query (binds room) room) (unary room))

  pub binds : ℕ → ℕ → Rule BindTree
  binds zero inside = bind_with zero (refuse_here TooDeep)
  binds (suc room) inside = pick (leb (suc room) inside) (bind_with (suc room) (expr room)) (binds room inside)

-- an expression, an operand and a query in a form that is opened, where so many could be opened before that
abbrev pub deeper_expr : ℕ → Rule Expr
deeper_expr zero = refuse_here TooDeep
deeper_expr (suc room) = expr room

abbrev pub deeper_unary : ℕ → Rule Part
deeper_unary zero = refuse_here TooDeep
deeper_unary (suc room) = unary room

abbrev pub deeper_query : ℕ → Rule QueryTree
deeper_query zero = refuse_here TooDeep
deeper_query (suc room) = query (binds room) room
