-- The grammar of classes and interfaces (docs/language.md, "Units, as they are read").
use Rattle.std.specs.Prelude.{◌≡◌, ℕ, List, [], ◌∷◌, Bool, Option, Some, None}
use Rattle.apex_text.specs.declared.place.Span.{Span}
use Rattle.apex_lexer.specs.declared.token.Keyword.TheVariants.{Public as PublicWord, Global as GlobalWord, Private as PrivateWord, Virtual as VirtualWord, Abstract as AbstractWord, With, Without, Inherited, Sharing, Class as ClassWord, Interface as InterfaceWord, Extends, Implements}
use Rattle.apex_lexer.specs.declared.token.Sign.TheVariants.{Comma, Semicolon, OpenBrace, CloseBrace}
use Rattle.apex_lexer.specs.declared.token.TokenKind.{TokenKind}
use Rattle.apex_lexer.specs.declared.token.TokenKind.TheVariants.{Keyword as IsWord, End}
use Rattle.apex_lexer.specs.Reading.{Shown}
use Rattle.apex_syntax.specs.declared.word.Word.{Word}
use Rattle.apex_syntax.specs.declared.unit.ClassWord.{ClassWord as TheWord}
use Rattle.apex_syntax.specs.declared.unit.ClassWord.TheVariants.{Public, Global, Private, Virtual, Abstract, WithSharing, WithoutSharing, InheritedSharing}
use Rattle.apex_syntax.specs.declared.unit.ClassModifier.{ClassModifier}
use Rattle.apex_syntax.specs.declared.unit.MemberTree.{MemberTree}
use Rattle.apex_syntax.specs.declared.unit.ClassTree.{ClassTree}
use Rattle.apex_syntax.specs.declared.unit.InterfaceTree.{InterfaceTree}
use Rattle.apex_syntax.specs.declared.unit.SignatureTree.{SignatureTree}
use Rattle.apex_syntax.specs.declared.unit.Unit.{Unit as Tree}
use Rattle.apex_syntax.specs.declared.unit.Unit.TheVariants.{Class as ClassUnit, Interface as InterfaceUnit}
use Rattle.token_grammar.specs.declared.read.Names.TheVariants.{InCode}
use Rattle.token_grammar.specs.Notation.{Rule, Give, Here, Since, Is, Take, Then, Choose, Many, Test}
use Rattle.token_grammar.specs.Tokens.{sign, word, name, next_sign, next_word, optional, open_sign}
use Rattle.apex_parse_unit.specs.declared.part.ClassHead.{ClassHead}
use Rattle.apex_parse_unit.specs.declared.part.InterfaceHead.{InterfaceHead}
use Rattle.apex_parse_unit.specs.declared.kind.UnitKind.TheVariants.{Interface as IsInterface}
use Rattle.apex_parse_unit.specs.Kinds.{unit_kind}
use Rattle.apex_parse_unit.specs.Names.{unit_name}
use Rattle.apex_parse_unit.specs.Members.{next_some, next_if, begins_result, result_tree, params, members}

-- ---- modifiers

-- the first word of a sharing keyword
abbrev pub sharing_kind : TokenKind → Option TheWord
sharing_kind (IsWord With) = Some WithSharing
sharing_kind (IsWord Without) = Some WithoutSharing
sharing_kind (IsWord Inherited) = Some InheritedSharing
sharing_kind _ = None

abbrev pub class_kind : TokenKind → Option TheWord
class_kind (IsWord PublicWord) = Some Public
class_kind (IsWord GlobalWord) = Some Global
class_kind (IsWord PrivateWord) = Some Private
class_kind (IsWord VirtualWord) = Some Virtual
class_kind (IsWord AbstractWord) = Some Abstract
class_kind k = sharing_kind k

abbrev pub sharing_of : Shown → Option TheWord
sharing_of t = sharing_kind t.kind

abbrev pub class_word_of : Shown → Option TheWord
class_word_of t = class_kind t.kind

-- two words
abbrev pub sharing : Rule TheWord
sharing = Then (Take sharing_of) (λ w. Then (word Sharing) (λ _. Give w))

abbrev pub class_word : Rule TheWord
class_word = Choose (next_some sharing_kind) sharing (Take class_word_of)

abbrev pub class_modifier : Rule ClassModifier
class_modifier = Then Here (λ i. Then class_word (λ w. Then (Since i) (λ sp. Give (record { span = sp; word = w }))))

abbrev pub class_modifiers : Rule (List ClassModifier)
class_modifiers = Many (next_some class_kind) class_modifier

-- ---- classes

abbrev pub parent : Rule (Option Word)
parent = optional (next_word Extends) (Then (word Extends) (λ _. name InCode))

abbrev pub comma_name : Rule Word
comma_name = Then (sign Comma) (λ _. name InCode)

abbrev pub more_names : Word → Rule (List Word)
more_names x = Then (Many (next_sign Comma) comma_name) (λ xs. Give (x ∷ xs))

abbrev pub names : Rule (List Word)
names = Then (name InCode) (λ x. more_names x)

abbrev pub interfaces : Rule (List Word)
interfaces = Choose (next_word Implements) (Then (word Implements) (λ _. names)) (Give [])

-- a name, its parent and its interfaces
abbrev pub named_head : List ClassModifier → Rule ClassHead
named_head ms =
    Then unit_name (λ x. Then parent (λ p. Then interfaces (λ xs. Give (record { modifiers = ms; name = x; parent = p; interfaces = xs }))))

abbrev pub class_head : Rule ClassHead
class_head = Then class_modifiers (λ ms. Then (word ClassWord) (λ _. named_head ms))

abbrev pub class_body : ℕ → Rule (List MemberTree)
class_body room = Then (open_sign OpenBrace room) (λ inside. Then (members inside) (λ ms. Then (sign CloseBrace) (λ _. Give ms)))

abbrev pub class_tree : Span → ClassHead → List MemberTree → ClassTree
class_tree sp h ms = record { span = sp; modifiers = h.modifiers; name = h.name.word; written = h.name.written; parent = h.parent; interfaces = h.interfaces; members = ms }

abbrev pub class : ℕ → Rule ClassTree
class room = Then Here (λ i. Then class_head (λ h. Then (class_body room) (λ ms. Then (Since i) (λ sp. Give (class_tree sp h ms)))))

-- ---- interfaces

abbrev pub access_kind : TokenKind → Option TheWord
access_kind (IsWord PublicWord) = Some Public
access_kind (IsWord GlobalWord) = Some Global
access_kind _ = None

abbrev pub access_of : Shown → Option TheWord
access_of t = access_kind t.kind

abbrev pub access : Rule ClassModifier
access = Then Here (λ i. Then (Take access_of) (λ w. Then (Since i) (λ sp. Give (record { span = sp; word = w }))))

abbrev pub interface_head : Rule InterfaceHead
interface_head =
    Then (optional (next_some access_kind) access) (λ m. Then (word InterfaceWord) (λ _. Then unit_name (λ x. Give (record { modifier = m; name = x }))))

-- a method without a body
abbrev pub signature : ℕ → Rule SignatureTree
signature room =
    Then Here (λ i. Then (result_tree room) (λ r. Then (name InCode) (λ x. Then (params room) (λ ps. Then (sign Semicolon) (λ _.
    Then (Since i) (λ sp. Give (record { span = sp; result = r; name = x; params = ps })))))))

abbrev pub signatures : ℕ → Rule (List SignatureTree)
signatures room = Many (next_if begins_result) (signature room)

abbrev pub interface_body : ℕ → Rule (List SignatureTree)
interface_body room = Then (open_sign OpenBrace room) (λ inside. Then (signatures inside) (λ ms. Then (sign CloseBrace) (λ _. Give ms)))

abbrev pub interface_tree : Span → InterfaceHead → List SignatureTree → InterfaceTree
interface_tree sp h ms = record { span = sp; modifier = h.modifier; name = h.name.word; written = h.name.written; methods = ms }

abbrev pub interface : ℕ → Rule InterfaceTree
interface room = Then Here (λ i. Then interface_head (λ h. Then (interface_body room) (λ ms. Then (Since i) (λ sp. Give (interface_tree sp h ms)))))

-- ---- units

abbrev pub class_whole : ℕ → Rule Tree
class_whole room = Then (class room) (λ c. Then (Is End) (λ _. Give (ClassUnit c)))

abbrev pub interface_whole : ℕ → Rule Tree
interface_whole room = Then (interface room) (λ c. Then (Is End) (λ _. Give (InterfaceUnit c)))

-- the first word that tells a kind says `interface`
abbrev pub is_interface : Test
is_interface tokens at = unit_kind tokens ≡ IsInterface

abbrev pub class_or_interface : ℕ → Rule Tree
class_or_interface room = Choose is_interface (interface_whole room) (class_whole room)
