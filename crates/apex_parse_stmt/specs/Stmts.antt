-- The grammar of statements (docs/language.md, "Statements"), in the notation of token_grammar.
--
-- `room` is how many forms may still be opened: beside those of expressions each `{` opens one, and each statement without
-- braces behind `if`, `else`, `while`, `do` and `for`. `s` reads a statement in a form that is opened.
use Rattle.std.specs.Prelude.{◌≡◌, ◌+◌, ◌||◌, ℕ, zero, suc, List, [], ◌∷◌, Bool, true, false, Option, Some, None}
use Rattle.apex_text.specs.declared.place.Span.{Span}
use Rattle.apex_lexer.specs.declared.token.Keyword.{Keyword}
use Rattle.apex_lexer.specs.declared.token.Keyword.TheVariants.{If as IfWord, Else, While as WhileWord, Do as DoWord, For as ForWord, Return as ReturnWord, Break as BreakWord, Continue as ContinueWord, Throw as ThrowWord, Try as TryWord, Catch as CatchWord, Finally, Insert, Update, Delete, Upsert, This as ThisWord, Super as SuperWord, New, True, False, Null}
use Rattle.apex_lexer.specs.declared.token.Sign.{Sign}
use Rattle.apex_lexer.specs.declared.token.Sign.TheVariants.{Assign, Colon, Comma, Semicolon, OpenParen, CloseParen, OpenBracket, OpenBrace, CloseBrace}
use Rattle.apex_lexer.specs.declared.token.TokenKind.{TokenKind}
use Rattle.apex_lexer.specs.declared.token.TokenKind.TheVariants.{Keyword as IsWord, Sign as IsSign, Integer, Long, Decimal, Quoted, End}
use Rattle.apex_lexer.specs.Reading.{Shown}
use Rattle.apex_syntax.specs.declared.word.Word.{Word}
use Rattle.apex_syntax.specs.declared.expr.Expr.{Expr}
use Rattle.apex_syntax.specs.declared.expr.TypeTree.{TypeTree}
use Rattle.apex_syntax.specs.declared.stmt.Body.{Body}
use Rattle.apex_syntax.specs.declared.stmt.Stmt.{Stmt}
use Rattle.apex_syntax.specs.declared.stmt.Stmt.TheVariants.{Block, Empty, Declare, Expr as ExprStmt, If, While, Do, For, ForEach, Return, Break, Continue, Throw, Try, Dml, This, Super}
use Rattle.apex_syntax.specs.declared.stmt.Declarator.{Declarator}
use Rattle.apex_syntax.specs.declared.stmt.ForStart.{ForStart}
use Rattle.apex_syntax.specs.declared.stmt.ForStart.TheVariants.{Nothing, Declare as StartDeclare, Expr as StartExpr}
use Rattle.apex_syntax.specs.declared.stmt.Catch.{Catch}
use Rattle.apex_syntax.specs.declared.stmt.DmlOp.{DmlOp}
use Rattle.apex_syntax.specs.declared.stmt.DmlOp.TheVariants.{Insert as Inserts, Update as Updates, Delete as Deletes, Upsert as Upserts}
use Rattle.token_grammar.specs.declared.fault.ParseWord.TheVariants.{TooDeep, Expected}
use Rattle.token_grammar.specs.declared.read.Names.TheVariants.{InCode}
use Rattle.token_grammar.specs.Notation.{Rule, Give, Here, Since, Is, Take, Then, Choose, Many, Test, kind_at}
use Rattle.token_grammar.specs.Tokens.{sign, word, name, next_sign, next_word, is_name, optional, open_sign, refuse_here}
use Rattle.apex_parse_leaf.specs.Leaves.{is_prefix}
use Rattle.apex_parse_leaf.specs.Types.{type, member, IsType}
use Rattle.apex_parse_expr.specs.Exprs.{expr, deeper_expr, args}
use Rattle.apex_parse_stmt.specs.declared.part.Ways.{Ways}
use Rattle.apex_parse_stmt.specs.declared.part.Caught.{Caught}
use Rattle.apex_parse_stmt.specs.declared.part.ForHead.{ForHead}
use Rattle.apex_parse_stmt.specs.declared.part.ForHead.TheVariants.{Each, Loop}

-- ---- what begins a statement

abbrev pub is_jump : TokenKind → Bool
is_jump (IsWord ReturnWord) = true
is_jump (IsWord BreakWord) = true
is_jump (IsWord ContinueWord) = true
is_jump (IsWord ThrowWord) = true
is_jump _ = false

abbrev pub is_nested : TokenKind → Bool
is_nested (IsWord IfWord) = true
is_nested (IsWord WhileWord) = true
is_nested (IsWord DoWord) = true
is_nested (IsWord ForWord) = true
is_nested (IsWord TryWord) = true
is_nested _ = false

abbrev pub is_dml : TokenKind → Bool
is_dml (IsWord Insert) = true
is_dml (IsWord Update) = true
is_dml (IsWord Delete) = true
is_dml (IsWord Upsert) = true
is_dml _ = false

abbrev pub next_of : (TokenKind → Bool) → Test
next_of class tokens at = class (kind_at tokens at) ≡ true

abbrev pub expr_word : Keyword → Bool
expr_word ThisWord = true
expr_word SuperWord = true
expr_word New = true
expr_word True = true
expr_word False = true
expr_word Null = true
expr_word _ = false

-- neither a name nor a prefix operator
abbrev pub expr_token : TokenKind → Bool
expr_token (Integer n) = true
expr_token (Long n) = true
expr_token (Decimal n) = true
expr_token Quoted = true
expr_token (IsSign OpenParen) = true
expr_token (IsSign OpenBracket) = true
expr_token (IsWord k) = expr_word k
expr_token _ = false

abbrev pub begins_expr : TokenKind → Bool
begins_expr k = is_name InCode k || (is_prefix k || expr_token k)

-- braces, and `;`
abbrev pub stmt_sign : TokenKind → Bool
stmt_sign (IsSign OpenBrace) = true
stmt_sign (IsSign Semicolon) = true
stmt_sign _ = false

abbrev pub begins_stmt : TokenKind → Bool
begins_stmt k = stmt_sign k || (is_nested k || (is_jump k || (is_dml k || begins_expr k)))

abbrev pub next_stmt : Test
next_stmt tokens at = begins_stmt (kind_at tokens at) ≡ true

-- a type of any depth and a name behind it
pub record TypedName (tokens : List Shown) (at : ℕ) : Type 0 where
  pub end : ℕ
  pub is_type : IsType tokens at end
  pub named : is_name InCode (kind_at tokens end) ≡ true

-- a declaration begins
abbrev pub next_declared : Test
next_declared tokens at = TypedName tokens at

-- ---- statements in others

abbrev pub stmts : Rule Stmt → Rule (List Stmt)
stmts s = Many next_stmt s

abbrev pub block : ℕ → Rule Stmt → Rule Body
block room s =
    Then Here (λ i. Then (open_sign OpenBrace room) (λ _. Then (stmts s) (λ xs. Then (sign CloseBrace) (λ _.
    Then (Since i) (λ sp. Give (record { span = sp; stmts = xs }))))))

abbrev pub braced : ℕ → Rule Stmt → Rule Stmt
braced room s = Then (block room s) (λ b. Give (Block b))

abbrev pub no_room : Rule Stmt
no_room = Choose next_stmt (refuse_here TooDeep) (refuse_here Expected)

-- it counts from its first token on
abbrev pub unbraced : ℕ → Rule Stmt → Rule Stmt
unbraced zero s = no_room
unbraced (suc room) s = s

abbrev pub inner : ℕ → Rule Stmt → Rule Stmt
inner room s = Choose (next_sign OpenBrace) (braced room s) (unbraced room s)

-- an expression in parentheses
abbrev pub tested : ℕ → Rule Expr
tested room = Then (open_sign OpenParen room) (λ inside. Then (expr inside) (λ x. Then (sign CloseParen) (λ _. Give x)))

-- ---- branches and loops

abbrev pub else_part : ℕ → Rule Stmt → Rule Stmt
else_part room s = Then (word Else) (λ _. inner room s)

abbrev pub ways : ℕ → Rule Stmt → Rule Ways
ways room s = Then (inner room s) (λ a. Then (optional (next_word Else) (else_part room s)) (λ b. Give (record { yes = a; no = b })))

abbrev pub if_stmt : ℕ → Rule Stmt → Rule Stmt
if_stmt room s =
    Then Here (λ i. Then (word IfWord) (λ _. Then (tested room) (λ c. Then (ways room s) (λ w. Then (Since i) (λ sp. Give (If sp c w.yes w.no))))))

abbrev pub while_stmt : ℕ → Rule Stmt → Rule Stmt
while_stmt room s =
    Then Here (λ i. Then (word WhileWord) (λ _. Then (tested room) (λ c. Then (inner room s) (λ x. Then (Since i) (λ sp. Give (While sp c x))))))

abbrev pub do_end : ℕ → Rule Expr
do_end room = Then (word WhileWord) (λ _. Then (tested room) (λ c. Then (sign Semicolon) (λ _. Give c)))

abbrev pub do_stmt : ℕ → Rule Stmt → Rule Stmt
do_stmt room s =
    Then Here (λ i. Then (word DoWord) (λ _. Then (inner room s) (λ x. Then (do_end room) (λ c. Then (Since i) (λ sp. Give (Do sp x c))))))

-- an expression, unless this sign stands there
abbrev pub unless : Test → ℕ → Rule (Option Expr)
unless test room = Choose test (Give None) (Then (expr room) (λ x. Give (Some x)))

-- from the first `;` of a `for` on
abbrev pub for_rest : ℕ → ForStart → Rule ForHead
for_rest room start =
    Then (sign Semicolon) (λ _. Then (unless (next_sign Semicolon) room) (λ c. Then (sign Semicolon) (λ _.
    Then (unless (next_sign CloseParen) room) (λ p. Give (Loop start c p)))))

-- the value of a variable
abbrev pub first_value : ℕ → Word → Rule Declarator
first_value room x = Then (sign Assign) (λ _. Then (expr room) (λ v. Give (record { name = x; value = Some v })))

abbrev pub variable : ℕ → Rule Declarator
variable room = Then (name InCode) (λ x. first_value room x)

abbrev pub comma_variable : ℕ → Rule Declarator
comma_variable room = Then (sign Comma) (λ _. variable room)

abbrev pub more_variables : ℕ → Declarator → Rule (List Declarator)
more_variables room d = Then (Many (next_sign Comma) (comma_variable room)) (λ ds. Give (d ∷ ds))

abbrev pub for_each : ℕ → TypeTree → Word → Rule ForHead
for_each room t x = Then (sign Colon) (λ _. Then (expr room) (λ l. Give (Each t x l)))

-- the variables of a `for`, behind the name of the first one
abbrev pub all_variables : ℕ → Word → Rule (List Declarator)
all_variables room x = Then (first_value room x) (λ d. more_variables room d)

abbrev pub for_variables : ℕ → TypeTree → Word → Rule ForHead
for_variables room t x = Then (all_variables room x) (λ ds. for_rest room (StartDeclare t ds))

abbrev pub for_declared : ℕ → Rule ForHead
for_declared room = Then (type room) (λ t. Then (name InCode) (λ x. Choose (next_sign Colon) (for_each room t x) (for_variables room t x)))

abbrev pub for_expr : ℕ → Rule ForHead
for_expr room = Then (expr room) (λ x. for_rest room (StartExpr x))

-- what stands in the parentheses of a `for`
abbrev pub for_head : ℕ → Rule ForHead
for_head room =
    Choose (next_sign Semicolon) (for_rest room Nothing) (Choose next_declared (for_declared room) (for_expr room))

abbrev pub for_parens : ℕ → Rule ForHead
for_parens room = Then (open_sign OpenParen room) (λ inside. Then (for_head inside) (λ h. Then (sign CloseParen) (λ _. Give h)))

abbrev pub for_tree : Span → ForHead → Stmt → Stmt
for_tree sp (Each t x l) s = ForEach sp t x l s
for_tree sp (Loop start c p) s = For sp start c p s

abbrev pub for_stmt : ℕ → Rule Stmt → Rule Stmt
for_stmt room s =
    Then Here (λ i. Then (word ForWord) (λ _. Then (for_parens room) (λ h. Then (inner room s) (λ x. Then (Since i) (λ sp. Give (for_tree sp h x))))))

-- ---- leaves

abbrev pub empty : Rule Stmt
empty = Then Here (λ i. Then (sign Semicolon) (λ _. Then (Since i) (λ sp. Give (Empty sp))))

abbrev pub return_stmt : ℕ → Rule Stmt
return_stmt room =
    Then Here (λ i. Then (word ReturnWord) (λ _. Then (unless (next_sign Semicolon) room) (λ x. Then (sign Semicolon) (λ _.
    Then (Since i) (λ sp. Give (Return sp x))))))

abbrev pub jump : Keyword → (Span → Stmt) → Rule Stmt
jump k make = Then Here (λ i. Then (word k) (λ _. Then (sign Semicolon) (λ _. Then (Since i) (λ sp. Give (make sp)))))

abbrev pub throw_stmt : ℕ → Rule Stmt
throw_stmt room =
    Then Here (λ i. Then (word ThrowWord) (λ _. Then (expr room) (λ x. Then (sign Semicolon) (λ _. Then (Since i) (λ sp. Give (Throw sp x))))))

abbrev pub dml_kind : TokenKind → Option DmlOp
dml_kind (IsWord Insert) = Some Inserts
dml_kind (IsWord Update) = Some Updates
dml_kind (IsWord Delete) = Some Deletes
dml_kind (IsWord Upsert) = Some Upserts
dml_kind _ = None

abbrev pub dml_of : Shown → Option DmlOp
dml_of t = dml_kind t.kind

abbrev pub dml_op : Rule DmlOp
dml_op = Take dml_of

abbrev pub dml_stmt : ℕ → Rule Stmt
dml_stmt room =
    Then Here (λ i. Then dml_op (λ o. Then (expr room) (λ x. Then (sign Semicolon) (λ _. Then (Since i) (λ sp. Give (Dml sp o x))))))

-- `this` or `super` with arguments
abbrev pub next_call : Keyword → Test
next_call k tokens at = (kind_at tokens at ≡ IsWord k) × (kind_at tokens (at + 1) ≡ IsSign OpenParen)

abbrev pub call_stmt : Keyword → (Span → List Expr → Stmt) → ℕ → Rule Stmt
call_stmt k make room =
    Then Here (λ i. Then (word k) (λ _. Then (args room (deeper_expr room)) (λ xs. Then (sign Semicolon) (λ _. Then (Since i) (λ sp. Give (make sp xs))))))

abbrev pub expr_stmt : ℕ → Rule Stmt
expr_stmt room = Then Here (λ i. Then (expr room) (λ x. Then (sign Semicolon) (λ _. Then (Since i) (λ sp. Give (ExprStmt sp x)))))

-- ---- declarations

abbrev pub initial : ℕ → Rule Expr
initial room = Then (sign Assign) (λ _. expr room)

abbrev pub declarator : ℕ → Rule Declarator
declarator room = Then (name InCode) (λ x. Then (optional (next_sign Assign) (initial room)) (λ v. Give (record { name = x; value = v })))

abbrev pub comma_declarator : ℕ → Rule Declarator
comma_declarator room = Then (sign Comma) (λ _. declarator room)

abbrev pub more_declarators : ℕ → Declarator → Rule (List Declarator)
more_declarators room d = Then (Many (next_sign Comma) (comma_declarator room)) (λ ds. Give (d ∷ ds))

abbrev pub declarators : ℕ → Rule (List Declarator)
declarators room = Then (declarator room) (λ d. more_declarators room d)

abbrev pub declare : ℕ → Rule Stmt
declare room =
    Then Here (λ i. Then (type room) (λ t. Then (declarators room) (λ ds. Then (sign Semicolon) (λ _. Then (Since i) (λ sp. Give (Declare sp t ds))))))

-- ---- try

abbrev pub finally_block : ℕ → Rule Stmt → Rule Body
finally_block room s = Then (word Finally) (λ _. block room s)

abbrev pub needed : ℕ → Rule Stmt → Rule (Option Body)
needed room s = Then (finally_block room s) (λ b. Give (Some b))

-- a try has at least one catch or a finally
abbrev pub last_part : ℕ → Rule Stmt → List Catch → Rule (Option Body)
last_part room s [] = needed room s
last_part room s (c ∷ cs) = optional (next_word Finally) (finally_block room s)

-- a class and a name
abbrev pub caught : Rule Caught
caught = Then (name InCode) (λ q. Then member (λ m. Then (name InCode) (λ x. Give (record { class = q; member = m; name = x }))))

abbrev pub catch_head : ℕ → Rule Caught
catch_head room = Then (word CatchWord) (λ _. Then (open_sign OpenParen room) (λ _. Then caught (λ h. Then (sign CloseParen) (λ _. Give h))))

abbrev pub catch_tree : Span → Caught → Body → Catch
catch_tree sp h b = record { span = sp; class = h.class; member = h.member; name = h.name; body = b }

abbrev pub catch : ℕ → Rule Stmt → Rule Catch
catch room s =
    Then Here (λ i. Then (catch_head room) (λ h. Then (block room s) (λ b. Then (Since i) (λ sp. Give (catch_tree sp h b)))))

abbrev pub catches : ℕ → Rule Stmt → Rule (List Catch)
catches room s = Many (next_word CatchWord) (catch room s)

abbrev pub try_stmt : ℕ → Rule Stmt → Rule Stmt
try_stmt room s =
    Then Here (λ i. Then (word TryWord) (λ _. Then (block room s) (λ b. Then (catches room s) (λ cs. Then (last_part room s cs) (λ f.
    Then (Since i) (λ sp. Give (Try sp b cs f)))))))

-- ---- statements

abbrev pub jumps : ℕ → Rule Stmt
jumps room =
    Choose (next_word ReturnWord) (return_stmt room)
    (Choose (next_word BreakWord) (jump BreakWord Break)
    (Choose (next_word ContinueWord) (jump ContinueWord Continue) (throw_stmt room)))

abbrev pub branching : ℕ → Rule Stmt → Rule Stmt
branching room s =
    Choose (next_word IfWord) (if_stmt room s)
    (Choose (next_word WhileWord) (while_stmt room s)
    (Choose (next_word DoWord) (do_stmt room s) (for_stmt room s)))

abbrev pub nested : ℕ → Rule Stmt → Rule Stmt
nested room s = Choose (next_word TryWord) (try_stmt room s) (branching room s)

-- what begins with no word of its own
abbrev pub other : ℕ → Rule Stmt
other room =
    Choose (next_call ThisWord) (call_stmt ThisWord This room)
    (Choose (next_call SuperWord) (call_stmt SuperWord Super room)
    (Choose next_declared (declare room) (expr_stmt room)))

abbrev pub stmt_with : ℕ → Rule Stmt → Rule Stmt
stmt_with room s =
    Choose (next_sign OpenBrace) (braced room s)
    (Choose (next_sign Semicolon) empty
    (Choose (next_of is_nested) (nested room s)
    (Choose (next_of is_jump) (jumps room)
    (Choose (next_of is_dml) (dml_stmt room) (other room)))))

unfoldable pub stmt : ℕ → Rule Stmt
stmt zero = stmt_with zero (refuse_here TooDeep)
stmt (suc room) = stmt_with (suc room) (stmt room)

-- a statement in a form that is opened, where so many could be opened before that
abbrev pub deeper_stmt : ℕ → Rule Stmt
deeper_stmt zero = refuse_here TooDeep
deeper_stmt (suc room) = stmt room

-- statements up to the end
abbrev pub anonymous : ℕ → Rule (List Stmt)
anonymous room = Then (stmts (stmt room)) (λ xs. Then (Is End) (λ _. Give xs))
