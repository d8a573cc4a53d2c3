-- The grammar of members (docs/language.md, "Units, as they are read"), in the notation of token_grammar.
--
-- `room` is how many forms may still be opened.
use Rattle.std.specs.Prelude.{◌≡◌, ◌+◌, ◌||◌, is_some, ℕ, List, [], ◌∷◌, Bool, true, false, Option, Some, None, IsSome}
use Rattle.apex_text.specs.declared.place.Span.{Span}
use Rattle.apex_lexer.specs.declared.token.Keyword.{Keyword}
use Rattle.apex_lexer.specs.declared.token.Keyword.TheVariants.{Public as PublicWord, Global as GlobalWord, Private as PrivateWord, Protected as ProtectedWord, Static as StaticWord, Final as FinalWord, Virtual as VirtualWord, Abstract as AbstractWord, Override as OverrideWord, Void as VoidWord, Get, Set}
use Rattle.apex_lexer.specs.declared.token.Sign.TheVariants.{Assign, Comma, Semicolon, OpenParen, CloseParen, OpenBrace, CloseBrace}
use Rattle.apex_lexer.specs.declared.token.TokenKind.{TokenKind}
use Rattle.apex_lexer.specs.declared.token.TokenKind.TheVariants.{Name, Keyword as IsWord, Sign as IsSign}
use Rattle.apex_lexer.specs.Reading.{Shown}
use Rattle.apex_syntax.specs.declared.word.Word.{Word}
use Rattle.apex_syntax.specs.declared.expr.TypeTree.{TypeTree}
use Rattle.apex_syntax.specs.declared.stmt.Body.{Body}
use Rattle.apex_syntax.specs.declared.unit.MemberWord.{MemberWord}
use Rattle.apex_syntax.specs.declared.unit.MemberWord.TheVariants.{Public, Global, Private, Protected, Static, Final, Virtual, Abstract, Override}
use Rattle.apex_syntax.specs.declared.unit.MemberModifier.{MemberModifier}
use Rattle.apex_syntax.specs.declared.unit.MemberTree.{MemberTree}
use Rattle.apex_syntax.specs.declared.unit.MemberTree.TheVariants.{Field, Property, Method, Constructor}
use Rattle.apex_syntax.specs.declared.unit.ResultTree.{ResultTree}
use Rattle.apex_syntax.specs.declared.unit.ResultTree.TheVariants.{Void, «Type» as Typed}
use Rattle.apex_syntax.specs.declared.unit.ParamTree.{ParamTree}
use Rattle.token_grammar.specs.declared.read.Names.TheVariants.{InCode}
use Rattle.token_grammar.specs.Notation.{Rule, Give, Here, Since, Take, Then, Choose, Many, Test, kind_at}
use Rattle.token_grammar.specs.Tokens.{sign, word, name, next_sign, next_word, next_name, is_name, optional, open_sign}
use Rattle.apex_parse_leaf.specs.Types.{type}
use Rattle.apex_parse_stmt.specs.Stmts.{block, deeper_stmt, initial}
use Rattle.apex_parse_unit.specs.declared.part.MemberBody.{MemberBody}
use Rattle.apex_parse_unit.specs.declared.part.MemberBody.TheVariants.{Field as FieldBody, Property as PropertyBody, Method as MethodBody, Constructor as ConstructorBody}

-- the next token is of a class
abbrev pub next_some : {A : Type 0} → (TokenKind → Option A) → Test
next_some class tokens at = IsSome (class (kind_at tokens at))

-- ---- modifiers

abbrev pub member_kind : TokenKind → Option MemberWord
member_kind (IsWord PublicWord) = Some Public
member_kind (IsWord GlobalWord) = Some Global
member_kind (IsWord PrivateWord) = Some Private
member_kind (IsWord ProtectedWord) = Some Protected
member_kind (IsWord StaticWord) = Some Static
member_kind (IsWord FinalWord) = Some Final
member_kind (IsWord VirtualWord) = Some Virtual
member_kind (IsWord AbstractWord) = Some Abstract
member_kind (IsWord OverrideWord) = Some Override
member_kind _ = None

abbrev pub member_word_of : Shown → Option MemberWord
member_word_of t = member_kind t.kind

abbrev pub modifier : Rule MemberModifier
modifier = Then Here (λ i. Then (Take member_word_of) (λ w. Then (Since i) (λ sp. Give (record { span = sp; word = w }))))

abbrev pub modifiers : Rule (List MemberModifier)
modifiers = Many (next_some member_kind) modifier

-- ---- what is answered, and parameters

abbrev pub void_result : Rule ResultTree
void_result = Then Here (λ i. Then (word VoidWord) (λ _. Then (Since i) (λ sp. Give (Void sp))))

abbrev pub typed_result : ℕ → Rule ResultTree
typed_result room = Then (type room) (λ t. Give (Typed t))

abbrev pub result_tree : ℕ → Rule ResultTree
result_tree room = Choose (next_word VoidWord) void_result (typed_result room)

abbrev pub param : ℕ → Rule ParamTree
param room = Then Here (λ i. Then (type room) (λ t. Then (name InCode) (λ x. Then (Since i) (λ sp. Give (record { span = sp; kind = t; name = x })))))

abbrev pub comma_param : ℕ → Rule ParamTree
comma_param room = Then (sign Comma) (λ _. param room)

abbrev pub more_params : ℕ → ParamTree → Rule (List ParamTree)
more_params room p = Then (Many (next_sign Comma) (comma_param room)) (λ ps. Give (p ∷ ps))

abbrev pub all_params : ℕ → Rule (List ParamTree)
all_params room = Then (param room) (λ p. more_params room p)

abbrev pub param_list : ℕ → Rule (List ParamTree)
param_list room = Choose (next_name InCode) (all_params room) (Give [])

abbrev pub params : ℕ → Rule (List ParamTree)
params room = Then (open_sign OpenParen room) (λ inside. Then (param_list inside) (λ ps. Then (sign CloseParen) (λ _. Give ps)))

-- ---- members, without their modifiers

abbrev pub body : ℕ → Rule Body
body room = block room (deeper_stmt room)

-- a body, or `;`
abbrev pub method_end : ℕ → Rule (Option Body)
method_end room = Choose (next_sign OpenBrace) (Then (body room) (λ b. Give (Some b))) (Then (sign Semicolon) (λ _. Give None))

-- a method, behind its name
abbrev pub method_rest : ℕ → ResultTree → Word → Rule MemberBody
method_rest room r x = Then (params room) (λ ps. Then (method_end room) (λ b. Give (MethodBody r x ps b)))

-- `{ get; set; }`
abbrev pub accessors : ℕ → Rule (Unit {0})
accessors room =
    Then (open_sign OpenBrace room) (λ _. Then (word Get) (λ _. Then (sign Semicolon) (λ _. Then (word Set) (λ _. Then (sign Semicolon) (λ _. sign CloseBrace)))))

abbrev pub property_rest : ℕ → TypeTree → Word → Rule MemberBody
property_rest room t x = Then (accessors room) (λ _. Give (PropertyBody t x))

abbrev pub field_rest : ℕ → TypeTree → Word → Rule MemberBody
field_rest room t x = Then (optional (next_sign Assign) (initial room)) (λ v. Then (sign Semicolon) (λ _. Give (FieldBody t x v)))

-- what begins with a type and a name
abbrev pub typed_rest : ℕ → TypeTree → Word → Rule MemberBody
typed_rest room t x =
    Choose (next_sign OpenParen) (method_rest room (Typed t) x) (Choose (next_sign OpenBrace) (property_rest room t x) (field_rest room t x))

abbrev pub typed : ℕ → Rule MemberBody
typed room = Then (type room) (λ t. Then (name InCode) (λ x. typed_rest room t x))

abbrev pub void_method : ℕ → Rule MemberBody
void_method room = Then void_result (λ r. Then (name InCode) (λ x. method_rest room r x))

abbrev pub constructor : ℕ → Rule MemberBody
constructor room = Then (name InCode) (λ x. Then (params room) (λ ps. Then (body room) (λ b. Give (ConstructorBody x ps b))))

-- a name and `(`
abbrev pub next_constructor : Test
next_constructor tokens at = (is_name InCode (kind_at tokens at) ≡ true) × (kind_at tokens (at + 1) ≡ IsSign OpenParen)

abbrev pub member_body : ℕ → Rule MemberBody
member_body room = Choose (next_word VoidWord) (void_method room) (Choose next_constructor (constructor room) (typed room))

-- ---- members

abbrev pub member_tree : Span → List MemberModifier → MemberBody → MemberTree
member_tree sp ms (FieldBody t x v) = Field sp ms t x v
member_tree sp ms (PropertyBody t x) = Property sp ms t x
member_tree sp ms (MethodBody r x ps b) = Method sp ms r x ps b
member_tree sp ms (ConstructorBody x ps b) = Constructor sp ms x ps b

abbrev pub member : ℕ → Rule MemberTree
member room = Then Here (λ i. Then modifiers (λ ms. Then (member_body room) (λ b. Then (Since i) (λ sp. Give (member_tree sp ms b)))))

abbrev pub is_void : TokenKind → Bool
is_void (IsWord VoidWord) = true
is_void _ = false

-- `void` or a type begins here
abbrev pub begins_result : TokenKind → Bool
begins_result k = is_void k || is_name InCode k

-- a modifier, or what a member has behind them
abbrev pub begins_member : TokenKind → Bool
begins_member k = is_some (member_kind k) || begins_result k

abbrev pub next_if : (TokenKind → Bool) → Test
next_if class tokens at = class (kind_at tokens at) ≡ true

abbrev pub members : ℕ → Rule (List MemberTree)
members room = Many (next_if begins_member) (member room)
