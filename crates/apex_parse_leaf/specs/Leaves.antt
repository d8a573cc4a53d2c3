-- Expressions and operators of one token, and what is asked of tokens (docs/language.md, "Expressions"), in the notation of token_grammar.
use Rattle.std.specs.Prelude.{◌≡◌, ◌+◌, ℕ, zero, suc, List, Bool, true, false, Option, Some, None, IsSome}
use Rattle.apex_text.specs.declared.place.Span.{Span}
use Rattle.apex_lexer.specs.Reading.{Shown}
use Rattle.apex_lexer.specs.declared.token.Keyword.{Keyword}
use Rattle.apex_lexer.specs.declared.token.Keyword.TheVariants.{True, False, Null, This as ThisWord, Super as SuperWord}
use Rattle.apex_lexer.specs.declared.token.Sign.{Sign}
use Rattle.apex_lexer.specs.declared.token.Sign.TheVariants.{Assign as AssignSign, Equal as EqualSign, Differs as DiffersSign, AtMost as AtMostSign, AtLeast as AtLeastSign, Less as LessSign, More as MoreSign, And as AndSign, Or as OrSign, Increment as IncrementSign, Decrement as DecrementSign, AddTo, SubtractFrom, MultiplyBy, DivideBy, Plus as PlusSign, Minus as MinusSign, Star, Slash, Not as NotSign, Dot, OpenParen, OpenBracket}
use Rattle.apex_lexer.specs.declared.token.TokenKind.{TokenKind}
use Rattle.apex_lexer.specs.declared.token.TokenKind.TheVariants.{Keyword as IsWord, Sign as IsSign, Integer as IntegerToken, Long as LongToken, Decimal as DecimalToken, Quoted}
use Rattle.apex_syntax.specs.declared.query.NumberTree.{NumberTree}
use Rattle.apex_syntax.specs.declared.query.NumberTree.TheVariants.{Integer, Long, Decimal}
use Rattle.apex_syntax.specs.declared.expr.Literal.TheVariants.{Number, Text, Bool as Truth, Null as Nothing}
use Rattle.apex_syntax.specs.declared.expr.PrefixOp.{PrefixOp}
use Rattle.apex_syntax.specs.declared.expr.PrefixOp.TheVariants.{Not, Minus as Negative, Increment as Before, Decrement as BeforeDown}
use Rattle.apex_syntax.specs.declared.expr.BinaryOp.{BinaryOp}
use Rattle.apex_syntax.specs.declared.expr.BinaryOp.TheVariants.{Or, And, Equal, Differs, Less, AtMost, More, AtLeast, Plus, Minus, Times, Over}
use Rattle.apex_syntax.specs.declared.expr.AssignOp.{AssignOp}
use Rattle.apex_syntax.specs.declared.expr.AssignOp.TheVariants.{Assign as Sets, Add, Subtract, Multiply, Divide}
use Rattle.apex_syntax.specs.declared.expr.StepOp.TheVariants.{Increment, Decrement}
use Rattle.apex_syntax.specs.declared.expr.Expr.{Expr}
use Rattle.apex_syntax.specs.declared.expr.Expr.TheVariants.{Literal, This, Super}
use Rattle.apex_syntax.specs.declared.expr.PostfixPart.{PostfixPart}
use Rattle.apex_syntax.specs.declared.expr.PostfixPart.TheVariants.{Step}
use Rattle.token_grammar.specs.declared.fault.ParseWord.TheVariants.{TooDeep}
use Rattle.token_grammar.specs.declared.read.Names.TheVariants.{InCode}
use Rattle.token_grammar.specs.Notation.{Rule, Refuse, Here, Take, Then, Test, span, kind_at}
use Rattle.token_grammar.specs.Tokens.{is_name}
use Rattle.token_grammar.specs.Literals.{literal_bytes}
use Rattle.apex_parse_leaf.specs.declared.level.Level.{Level}
use Rattle.apex_parse_leaf.specs.declared.level.Level.TheVariants.{Or as OrLevel, And as AndLevel, Equal as EqualLevel, Order as OrderLevel, Sum as SumLevel, Product as ProductLevel}

-- ---- tokens that are expressions

abbrev pub number_expr : Span → NumberTree → Option Expr
number_expr s n = Some (Literal s (Number n))

abbrev pub word_expr : Span → Keyword → Option Expr
word_expr s True = Some (Literal s (Truth true))
word_expr s False = Some (Literal s (Truth false))
word_expr s Null = Some (Literal s Nothing)
word_expr s ThisWord = Some (This s)
word_expr s SuperWord = Some (Super s)
word_expr s _ = None

abbrev pub simple_kind : Span → List ℕ → TokenKind → Option Expr
simple_kind s text (IntegerToken n) = number_expr s (Integer n)
simple_kind s text (LongToken n) = number_expr s (Long n)
simple_kind s text (DecimalToken n) = number_expr s (Decimal n)
simple_kind s text Quoted = Some (Literal s (Text (literal_bytes text)))
simple_kind s text (IsWord k) = word_expr s k
simple_kind s text _ = None

abbrev pub simple_of : Shown → Option Expr
simple_of t = simple_kind (span t) t.bytes t.kind

abbrev pub simple : Rule Expr
simple = Take simple_of

-- ---- what goes on with an expression

abbrev pub step_kind : Span → TokenKind → Option PostfixPart
step_kind s (IsSign IncrementSign) = Some (Step s Increment)
step_kind s (IsSign DecrementSign) = Some (Step s Decrement)
step_kind s _ = None

abbrev pub step_of : Shown → Option PostfixPart
step_of t = step_kind (span t) t.kind

abbrev pub is_step : TokenKind → Bool
is_step (IsSign IncrementSign) = true
is_step (IsSign DecrementSign) = true
is_step _ = false

abbrev pub next_step : Test
next_step tokens at = is_step (kind_at tokens at) ≡ true

abbrev pub step : Rule PostfixPart
step = Take step_of

-- ---- prefix operators

abbrev pub prefix_kind : TokenKind → Option PrefixOp
prefix_kind (IsSign NotSign) = Some Not
prefix_kind (IsSign MinusSign) = Some Negative
prefix_kind (IsSign IncrementSign) = Some Before
prefix_kind (IsSign DecrementSign) = Some BeforeDown
prefix_kind _ = None

abbrev pub prefix_of : Shown → Option PrefixOp
prefix_of t = prefix_kind t.kind

abbrev pub is_prefix : TokenKind → Bool
is_prefix (IsSign NotSign) = true
is_prefix (IsSign MinusSign) = true
is_prefix (IsSign IncrementSign) = true
is_prefix (IsSign DecrementSign) = true
is_prefix _ = false

abbrev pub next_prefix : Test
next_prefix tokens at = is_prefix (kind_at tokens at) ≡ true

abbrev pub prefix_op : Rule PrefixOp
prefix_op = Take prefix_of

-- the operator, where a form may be opened
abbrev pub open_prefix : ℕ → Rule PrefixOp
open_prefix zero = Then Here (λ i. Then prefix_op (λ o. Refuse TooDeep i))
open_prefix (suc room) = prefix_op

-- ---- binary operators

abbrev pub sign_op : Level → Sign → Option BinaryOp
sign_op OrLevel OrSign = Some Or
sign_op AndLevel AndSign = Some And
sign_op EqualLevel EqualSign = Some Equal
sign_op EqualLevel DiffersSign = Some Differs
sign_op OrderLevel LessSign = Some Less
sign_op OrderLevel AtMostSign = Some AtMost
sign_op OrderLevel MoreSign = Some More
sign_op OrderLevel AtLeastSign = Some AtLeast
sign_op SumLevel PlusSign = Some Plus
sign_op SumLevel MinusSign = Some Minus
sign_op ProductLevel Star = Some Times
sign_op ProductLevel Slash = Some Over
sign_op _ _ = None

abbrev pub level_op : Level → TokenKind → Option BinaryOp
level_op l (IsSign s) = sign_op l s
level_op l _ = None

abbrev pub op_of : Level → Shown → Option BinaryOp
op_of l t = level_op l t.kind

abbrev pub op : Level → Rule BinaryOp
op l = Take (op_of l)

abbrev pub next_op : Level → Test
next_op l tokens at = IsSome (level_op l (kind_at tokens at))

-- ---- operators that assign

abbrev pub assign_kind : TokenKind → Option AssignOp
assign_kind (IsSign AssignSign) = Some Sets
assign_kind (IsSign AddTo) = Some Add
assign_kind (IsSign SubtractFrom) = Some Subtract
assign_kind (IsSign MultiplyBy) = Some Multiply
assign_kind (IsSign DivideBy) = Some Divide
assign_kind _ = None

abbrev pub assign_of : Shown → Option AssignOp
assign_of t = assign_kind t.kind

abbrev pub assign_op : Rule AssignOp
assign_op = Take assign_of

abbrev pub open_assign : ℕ → Rule AssignOp
open_assign zero = Then Here (λ i. Then assign_op (λ o. Refuse TooDeep i))
open_assign (suc room) = assign_op

-- an operator that assigns, behind what can be its target
abbrev pub next_assign : Bool → Test
next_assign target tokens at = IsSome (assign_kind (kind_at tokens at)) × (target ≡ true)

abbrev pub begins_part : TokenKind → Bool
begins_part (IsSign Dot) = true
begins_part (IsSign OpenBracket) = true
begins_part _ = false

abbrev pub next_part : Test
next_part tokens at = begins_part (kind_at tokens at) ≡ true

-- a parenthesis, a name and `=`
abbrev pub next_fields : Test
next_fields tokens at =
    (kind_at tokens at ≡ IsSign OpenParen) × (is_name InCode (kind_at tokens (at + 1)) ≡ true) × (kind_at tokens (at + 2) ≡ IsSign AssignSign)
