-- The grammar of queries (docs/language.md, "Queries"), in the notation of token_grammar.
--
-- `room` is how many forms may still be opened: each `(`, `[` and `{` and each `NOT` opens one.
use Rattle.std.specs.Prelude.{◌≡◌, ◌+◌, ℕ, zero, suc, List, [], ◌∷◌, Bool, true, false, Option, Some, None}
use Rattle.apex_text.specs.declared.place.Span.{Span}
use Rattle.apex_lexer.specs.Reading.{Shown}
use Rattle.apex_lexer.specs.declared.token.Keyword.{Keyword}
use Rattle.apex_lexer.specs.declared.token.Keyword.TheVariants.{Select, From, Where, And, Or, Not, In, Like, Order, By, Limit, Offset, Asc, Desc, Nulls, Count, First, Last, For, Update, True, False, Null}
use Rattle.apex_lexer.specs.declared.token.Sign.{Sign}
use Rattle.apex_lexer.specs.declared.token.Sign.TheVariants.{Assign, Differs as DiffersSign, AtMost as AtMostSign, AtLeast as AtLeastSign, Less as LessSign, More as MoreSign, Minus, Colon, Dot, Comma, OpenParen, CloseParen, OpenBracket, CloseBracket, OpenBrace, CloseBrace}
use Rattle.apex_lexer.specs.declared.token.TokenKind.{TokenKind}
use Rattle.apex_lexer.specs.declared.token.TokenKind.TheVariants.{Keyword as IsWord, Sign as IsSign, Integer as IntegerToken, Long as LongToken, Decimal as DecimalToken, Quoted, Date as DateToken, Moment as MomentToken, End}
use Rattle.apex_syntax.specs.declared.word.Word.{Word}
use Rattle.apex_syntax.specs.declared.query.QueryTree.{QueryTree}
use Rattle.apex_syntax.specs.declared.query.SelectTree.{SelectTree}
use Rattle.apex_syntax.specs.declared.query.SelectTree.TheVariants.{Count as CountsRows, Items}
use Rattle.apex_syntax.specs.declared.query.SelTree.{SelTree}
use Rattle.apex_syntax.specs.declared.query.SelTree.TheVariants.{Path, Query}
use Rattle.apex_syntax.specs.declared.query.PathTree.{PathTree}
use Rattle.apex_syntax.specs.declared.query.CondTree.{CondTree}
use Rattle.apex_syntax.specs.declared.query.CondTree.TheVariants.{All, Any, Not as Negated, Paren, Compare, Within}
use Rattle.apex_syntax.specs.declared.query.CompareOp.{CompareOp}
use Rattle.apex_syntax.specs.declared.query.CompareOp.TheVariants.{Equal, Differs, Less, AtMost, More, AtLeast, Like as IsLike}
use Rattle.apex_syntax.specs.declared.query.ValueTree.{ValueTree}
use Rattle.apex_syntax.specs.declared.query.ValueTree.TheVariants.{Number, Text, Date, Moment, Bool as Truth, Null as Nothing, Bind}
use Rattle.apex_syntax.specs.declared.query.NumberTree.{NumberTree}
use Rattle.apex_syntax.specs.declared.query.NumberTree.TheVariants.{Integer, Long, Decimal}
use Rattle.apex_syntax.specs.declared.query.ListTree.{ListTree}
use Rattle.apex_syntax.specs.declared.query.ListTree.TheVariants.{Values, Bind as BoundList}
use Rattle.apex_syntax.specs.declared.query.KeyTree.{KeyTree}
use Rattle.apex_syntax.specs.declared.query.OrderTree.{OrderTree}
use Rattle.apex_syntax.specs.declared.query.CountTree.{CountTree}
use Rattle.apex_syntax.specs.declared.query.CountTree.TheVariants.{Whole, Bind as BoundCount}
use Rattle.apex_syntax.specs.declared.query.BindTree.{BindTree}
use Rattle.apex_syntax.specs.declared.query.BindTree.TheVariants.{Tokens}
use Rattle.soql_parse.specs.declared.select.FromPart.{FromPart}
use Rattle.token_grammar.specs.declared.fault.ParseWord.TheVariants.{TooDeep, MixedAndOr, LockedOrder, TooManyLevels}
use Rattle.token_grammar.specs.declared.read.Names.TheVariants.{InQuery, InCode, AllWords}
use Rattle.token_grammar.specs.Notation.{Rule, Give, Refuse, Here, Since, Take, Then, Choose, Many, Test, span, kind_at}
use Rattle.token_grammar.specs.Tokens.{sign, word, name, next_sign, next_word, optional, skip, open_sign, open_word, refuse_here}
use Rattle.token_grammar.specs.Literals.{literal_bytes}

-- ---- paths: one to six names, the first of them no word of a query; behind a dot each word is a name

-- up to so many dots and names; one more is too many, and that stands at the first name
abbrev pub links : ℕ → ℕ → Rule (List Word)
links start zero = Choose (next_sign Dot) (Then (sign Dot) (λ _. Then (name AllWords) (λ _. Refuse TooManyLevels start))) (Give [])
links start (suc more) =
    Choose (next_sign Dot) (Then (sign Dot) (λ _. Then (name AllWords) (λ x. Then (links start more) (λ xs. Give (x ∷ xs))))) (Give [])

abbrev pub names : ℕ → Word → Rule (List Word)
names start x = Then (links start 5) (λ xs. Give (x ∷ xs))

abbrev pub path : Rule PathTree
path = Then Here (λ i. Then (name InQuery) (λ x. Then (names i x) (λ xs. Then (Since i) (λ s. Give (record { span = s; names = xs })))))

-- ---- binds that are kept as their tokens: a colon, a name, and names behind dots and groups in any number

-- the sign that closes what this one opens
abbrev pub closing : TokenKind → Option Sign
closing (IsSign OpenParen) = Some CloseParen
closing (IsSign OpenBracket) = Some CloseBracket
closing (IsSign OpenBrace) = Some CloseBrace
closing _ = None

abbrev pub opens : Shown → Option Sign
opens t = closing t.kind

abbrev pub is_opening : TokenKind → Bool
is_opening (IsSign OpenParen) = true
is_opening (IsSign OpenBracket) = true
is_opening (IsSign OpenBrace) = true
is_opening _ = false

-- any token but a closing sign and the end
abbrev pub is_inner : TokenKind → Bool
is_inner (IsSign CloseParen) = false
is_inner (IsSign CloseBracket) = false
is_inner (IsSign CloseBrace) = false
is_inner End = false
is_inner _ = true

abbrev pub next_opening : Test
next_opening tokens at = is_opening (kind_at tokens at) ≡ true

abbrev pub next_inner : Test
next_inner tokens at = is_inner (kind_at tokens at) ≡ true

abbrev pub opening : Rule Sign
opening = Take opens

abbrev pub any_token : Rule (Unit {0})
any_token = Take (λ t. Some tt)

-- the sign that closes a group, where one may be opened
abbrev pub opener : ℕ → Rule Sign
opener zero = Then Here (λ i. Then opening (λ s. Refuse TooDeep i))
opener (suc room) = opening

-- a token of a group, or a group in it
abbrev pub inner : Rule (Unit {0}) → Rule (Unit {0})
inner deeper = Choose next_opening deeper any_token

-- an opening sign, tokens and groups, and the sign that closes it
abbrev pub group_with : ℕ → Rule (Unit {0}) → Rule (Unit {0})
group_with room deeper = Then (opener room) (λ s. Then (skip next_inner (inner deeper)) (λ _. sign s))

abbrev pub group : ℕ → Rule (Unit {0})
group zero = group_with zero (refuse_here TooDeep)
group (suc room) = group_with (suc room) (group room)

-- a group that is opened inside of one, where so many could be opened before that one
abbrev pub deeper_group : ℕ → Rule (Unit {0})
deeper_group zero = refuse_here TooDeep
deeper_group (suc room) = group room

-- what goes on with a bind: a dot and a name, or a group in parentheses or brackets
abbrev pub goes_on : TokenKind → Bool
goes_on (IsSign Dot) = true
goes_on (IsSign OpenParen) = true
goes_on (IsSign OpenBracket) = true
goes_on _ = false

abbrev pub next_part : Test
next_part tokens at = goes_on (kind_at tokens at) ≡ true

abbrev pub bind_part : ℕ → Rule (Unit {0})
bind_part room = Choose (next_sign Dot) (Then (sign Dot) (λ _. Then (name AllWords) (λ _. Give tt))) (group room)

abbrev pub range : ℕ → Rule BindTree
range room =
    Then Here (λ i. Then (sign Colon) (λ _. Then (name InCode) (λ _. Then (skip next_part (bind_part room)) (λ _.
    Then Here (λ j. Then (Since i) (λ s. Give (Tokens (record { span = s; from = i; to = j; room = room }))))))))

-- ---- values; `bind` reads a bind where so many forms may be open inside of it

abbrev pub number_kind : TokenKind → Option NumberTree
number_kind (IntegerToken n) = Some (Integer n)
number_kind (LongToken n) = Some (Long n)
number_kind (DecimalToken n) = Some (Decimal n)
number_kind _ = None

abbrev pub number_of : Shown → Option NumberTree
number_of t = number_kind t.kind

abbrev pub number : Rule NumberTree
number = Take number_of

abbrev pub literal_kind : Span → List ℕ → TokenKind → Option ValueTree
literal_kind s text (IntegerToken n) = Some (Number s false (Integer n))
literal_kind s text (LongToken n) = Some (Number s false (Long n))
literal_kind s text (DecimalToken n) = Some (Number s false (Decimal n))
literal_kind s text Quoted = Some (Text s (literal_bytes text))
literal_kind s text (DateToken d) = Some (Date s d)
literal_kind s text (MomentToken m) = Some (Moment s m)
literal_kind s text (IsWord True) = Some (Truth s true)
literal_kind s text (IsWord False) = Some (Truth s false)
literal_kind s text (IsWord Null) = Some (Nothing s)
literal_kind s text _ = None

abbrev pub literal_of : Shown → Option ValueTree
literal_of t = literal_kind (span t) t.bytes t.kind

abbrev pub literal : Rule ValueTree
literal = Take literal_of

abbrev pub negative : Rule ValueTree
negative = Then Here (λ i. Then (sign Minus) (λ _. Then number (λ x. Then (Since i) (λ s. Give (Number s true x)))))

abbrev pub bound : (ℕ → Rule BindTree) → ℕ → Rule ValueTree
bound bind room = Then (bind room) (λ b. Give (Bind b))

abbrev pub value : (ℕ → Rule BindTree) → ℕ → Rule ValueTree
value bind room =
    Choose (next_sign Colon) (bound bind room)
    (Choose (next_sign Minus) negative literal)

abbrev pub comma_value : (ℕ → Rule BindTree) → ℕ → Rule ValueTree
comma_value bind room = Then (sign Comma) (λ _. value bind room)

abbrev pub more_values : (ℕ → Rule BindTree) → ℕ → ValueTree → Rule (List ValueTree)
more_values bind room x = Then (Many (next_sign Comma) (comma_value bind room)) (λ xs. Give (x ∷ xs))

abbrev pub values : (ℕ → Rule BindTree) → ℕ → Rule ListTree
values bind room =
    Then Here (λ i. Then (open_sign OpenParen room) (λ inside. Then (value bind inside) (λ x. Then (more_values bind inside x) (λ xs.
    Then (sign CloseParen) (λ _. Then (Since i) (λ s. Give (Values s xs)))))))

abbrev pub list : (ℕ → Rule BindTree) → ℕ → Rule ListTree
list bind room = Choose (next_sign Colon) (Then (bind room) (λ b. Give (BoundList b))) (values bind room)

abbrev pub whole_kind : Span → TokenKind → Option CountTree
whole_kind s (IntegerToken n) = Some (Whole s n)
whole_kind s _ = None

abbrev pub whole_of : Shown → Option CountTree
whole_of t = whole_kind (span t) t.kind

abbrev pub whole : Rule CountTree
whole = Take whole_of

abbrev pub count : (ℕ → Rule BindTree) → ℕ → Rule CountTree
count bind room = Choose (next_sign Colon) (Then (bind room) (λ b. Give (BoundCount b))) whole

-- ---- conditions

abbrev pub op_kind : TokenKind → Option CompareOp
op_kind (IsSign Assign) = Some Equal
op_kind (IsSign DiffersSign) = Some Differs
op_kind (IsSign AtMostSign) = Some AtMost
op_kind (IsSign MoreSign) = Some More
op_kind (IsSign AtLeastSign) = Some AtLeast
op_kind (IsWord Like) = Some IsLike
op_kind _ = None

abbrev pub op_of : Shown → Option CompareOp
op_of t = op_kind t.kind

-- `<>` is two tokens
abbrev pub less : Rule CompareOp
less = Then (sign LessSign) (λ _. Choose (next_sign MoreSign) (Then (sign MoreSign) (λ _. Give Differs)) (Give Less))

abbrev pub other_op : Rule CompareOp
other_op = Take op_of

abbrev pub op : Rule CompareOp
op = Choose (next_sign LessSign) less other_op

-- what stands behind a path that began at a place
abbrev pub not_within : (ℕ → Rule BindTree) → ℕ → ℕ → PathTree → Rule CondTree
not_within bind room i p = Then (word Not) (λ _. Then (word In) (λ _. Then (list bind room) (λ l. Then (Since i) (λ s. Give (Within s p true l)))))

abbrev pub within : (ℕ → Rule BindTree) → ℕ → ℕ → PathTree → Rule CondTree
within bind room i p = Then (word In) (λ _. Then (list bind room) (λ l. Then (Since i) (λ s. Give (Within s p false l))))

abbrev pub compared : (ℕ → Rule BindTree) → ℕ → ℕ → PathTree → Rule CondTree
compared bind room i p = Then op (λ o. Then (value bind room) (λ v. Then (Since i) (λ s. Give (Compare s p o v))))

abbrev pub test_of : (ℕ → Rule BindTree) → ℕ → ℕ → PathTree → Rule CondTree
test_of bind room i p = Choose (next_word Not) (not_within bind room i p) (Choose (next_word In) (within bind room i p) (compared bind room i p))

abbrev pub simple : (ℕ → Rule BindTree) → ℕ → Rule CondTree
simple bind room = Then Here (λ i. Then path (λ p. test_of bind room i p))

abbrev pub linked : Keyword → Rule CondTree → Rule CondTree
linked link one = Then (word link) (λ _. one)

-- a first condition and those behind it, with one link between them
abbrev pub chain : Keyword → CondTree → Rule CondTree → Rule (List CondTree)
chain link first one = Then (Many (next_word link) (linked link one)) (λ rest. Give (first ∷ rest))

-- the list is a condition, unless the other link follows
abbrev pub unmixed : Keyword → ℕ → (Span → CondTree) → Rule CondTree
unmixed mixed i make = Choose (next_word mixed) (refuse_here MixedAndOr) (Then (Since i) (λ s. Give (make s)))

abbrev pub all_of : ℕ → CondTree → Rule CondTree → Rule CondTree
all_of i first one = Then (chain And first one) (λ cs. unmixed Or i (λ s. All s cs))

abbrev pub any_of : ℕ → CondTree → Rule CondTree → Rule CondTree
any_of i first one = Then (chain Or first one) (λ cs. unmixed And i (λ s. Any s cs))

abbrev pub conds_of : Rule CondTree → Rule CondTree
conds_of one =
    Then Here (λ i. Then one (λ first.
    Choose (next_word And) (all_of i first one) (Choose (next_word Or) (any_of i first one) (Give first))))

abbrev pub negation : ℕ → Rule CondTree → Rule CondTree
negation room deeper = Then Here (λ i. Then (open_word Not room) (λ _. Then deeper (λ c. Then (Since i) (λ s. Give (Negated s c)))))

abbrev pub enclosed : ℕ → Rule CondTree → Rule CondTree
enclosed room deeper =
    Then Here (λ i. Then (open_sign OpenParen room) (λ _. Then (conds_of deeper) (λ c. Then (sign CloseParen) (λ _.
    Then (Since i) (λ s. Give (Paren s c))))))

abbrev pub one_with : (ℕ → Rule BindTree) → ℕ → Rule CondTree → Rule CondTree
one_with bind room deeper =
    Choose (next_word Not) (negation room deeper) (Choose (next_sign OpenParen) (enclosed room deeper) (simple bind room))

abbrev pub one : (ℕ → Rule BindTree) → ℕ → Rule CondTree
one bind zero = one_with bind zero (refuse_here TooDeep)
one bind (suc room) = one_with bind (suc room) (one bind room)

-- a condition in a form that is opened, where so many could be opened before that
abbrev pub deeper_one : (ℕ → Rule BindTree) → ℕ → Rule CondTree
deeper_one bind zero = refuse_here TooDeep
deeper_one bind (suc room) = one bind room

abbrev pub cond : (ℕ → Rule BindTree) → ℕ → Rule CondTree
cond bind room = conds_of (one bind room)

-- ---- orders

abbrev pub direction : Rule Bool
direction =
    Choose (next_word Asc) (Then (word Asc) (λ _. Give false))
    (Choose (next_word Desc) (Then (word Desc) (λ _. Give true)) (Give false))

abbrev pub first_or_last : Rule Bool
first_or_last = Choose (next_word First) (Then (word First) (λ _. Give false)) (Then (word Last) (λ _. Give true))

abbrev pub nulls : Rule Bool
nulls = Choose (next_word Nulls) (Then (word Nulls) (λ _. first_or_last)) (Give false)

abbrev pub key : Rule KeyTree
key =
    Then Here (λ i. Then path (λ p. Then direction (λ d. Then nulls (λ n. Then (Since i) (λ s.
    Give (record { span = s; path = p; descending = d; nulls_last = n }))))))

abbrev pub comma_key : Rule KeyTree
comma_key = Then (sign Comma) (λ _. key)

abbrev pub more_keys : KeyTree → Rule (List KeyTree)
more_keys k = Then (Many (next_sign Comma) comma_key) (λ ks. Give (k ∷ ks))

abbrev pub ordered : Rule OrderTree
ordered =
    Then Here (λ i. Then (word Order) (λ _. Then (word By) (λ _. Then key (λ k. Then (more_keys k) (λ ks. Then (Since i) (λ s.
    Give (record { span = s; keys = ks })))))))

abbrev pub order : Rule (Option OrderTree)
order = optional (next_word Order) ordered

-- ---- queries

abbrev pub where_part : (ℕ → Rule BindTree) → ℕ → Rule CondTree
where_part bind room = Then (word Where) (λ _. cond bind room)

-- LIMIT or OFFSET and a count
abbrev pub count_part : (ℕ → Rule BindTree) → Keyword → ℕ → Rule CountTree
count_part bind k room = Then (word k) (λ _. count bind room)

-- FOR UPDATE, which no order may stand before
abbrev pub update : Bool → ℕ → Rule Bool
update true place = Refuse LockedOrder place
update false place = Give true

abbrev pub has_order : Option OrderTree → Bool
has_order None = false
has_order (Some o) = true

abbrev pub locking : Bool → Rule Bool
locking after_order = Then Here (λ i. Then (word For) (λ _. Then (word Update) (λ _. update after_order i)))

abbrev pub lock : Bool → Rule Bool
lock after_order = Choose (next_word For) (locking after_order) (Give false)

-- what stands behind FROM
abbrev pub source : (ℕ → Rule BindTree) → ℕ → Rule FromPart
source bind room =
    Then (name AllWords) (λ o. Then (optional (next_word Where) (where_part bind room)) (λ c. Then order (λ k.
    Then (optional (next_word Limit) (count_part bind Limit room)) (λ l. Then (optional (next_word Offset) (count_part bind Offset room)) (λ f.
    Give (record { object = o; cond = c; order = k; limit = l; offset = f }))))))

abbrev pub query_tree : Span → SelectTree → FromPart → Bool → QueryTree
query_tree s sel from locked = record { span = s; select = sel; object = from.object; cond = from.cond; order = from.order; limit = from.limit; offset = from.offset; locked = locked }

-- a subquery: it has no COUNT(), no FOR UPDATE and no subquery
abbrev pub second_level : ℕ → Rule SelTree
second_level room = Then Here (λ i. Then (open_sign OpenParen room) (λ _. Refuse TooManyLevels i))

abbrev pub path_item : Rule SelTree
path_item = Then path (λ p. Give (Path p))

abbrev pub sub_item : ℕ → Rule SelTree
sub_item room = Choose (next_sign OpenParen) (second_level room) path_item

abbrev pub comma_sub_item : ℕ → Rule SelTree
comma_sub_item room = Then (sign Comma) (λ _. sub_item room)

abbrev pub more_sub_items : ℕ → SelTree → Rule (List SelTree)
more_sub_items room x = Then (Many (next_sign Comma) (comma_sub_item room)) (λ xs. Give (x ∷ xs))

abbrev pub sub_items : ℕ → Rule SelectTree
sub_items room = Then (sub_item room) (λ x. Then (more_sub_items room x) (λ xs. Give (Items xs)))

abbrev pub sub_query : (ℕ → Rule BindTree) → ℕ → Rule QueryTree
sub_query bind room =
    Then Here (λ i. Then (word Select) (λ _. Then (sub_items room) (λ sel. Then (word From) (λ _. Then (source bind room) (λ f.
    Then (Since i) (λ s. Give (query_tree s sel f false)))))))

abbrev pub sub_paren : (ℕ → Rule BindTree) → ℕ → Rule SelTree
sub_paren bind room =
    Then Here (λ i. Then (open_sign OpenParen room) (λ inside. Then (sub_query bind inside) (λ q. Then (sign CloseParen) (λ _.
    Then (Since i) (λ s. Give (Query s q))))))

abbrev pub item : (ℕ → Rule BindTree) → ℕ → Rule SelTree
item bind room = Choose (next_sign OpenParen) (sub_paren bind room) path_item

abbrev pub comma_item : (ℕ → Rule BindTree) → ℕ → Rule SelTree
comma_item bind room = Then (sign Comma) (λ _. item bind room)

-- COUNT is a name where no parenthesis follows
abbrev pub next_count : Test
next_count tokens at = (kind_at tokens at ≡ IsWord Count) × (kind_at tokens (at + 1) ≡ IsSign OpenParen)

abbrev pub counting : ℕ → Rule SelectTree
counting room =
    Then Here (λ i. Then (word Count) (λ _. Then (open_sign OpenParen room) (λ _. Then (sign CloseParen) (λ _.
    Then (Since i) (λ s. Give (CountsRows s))))))

abbrev pub more_items : (ℕ → Rule BindTree) → ℕ → SelTree → Rule (List SelTree)
more_items bind room x = Then (Many (next_sign Comma) (comma_item bind room)) (λ xs. Give (x ∷ xs))

abbrev pub items : (ℕ → Rule BindTree) → ℕ → Rule SelectTree
items bind room = Then (item bind room) (λ x. Then (more_items bind room x) (λ xs. Give (Items xs)))

abbrev pub selection : (ℕ → Rule BindTree) → ℕ → Rule SelectTree
selection bind room = Choose next_count (counting room) (items bind room)

abbrev pub query : (ℕ → Rule BindTree) → ℕ → Rule QueryTree
query bind room =
    Then Here (λ i. Then (word Select) (λ _. Then (selection bind room) (λ sel. Then (word From) (λ _. Then (source bind room) (λ f.
    Then (lock (has_order f.order)) (λ u. Then (Since i) (λ s. Give (query_tree s sel f u))))))))
