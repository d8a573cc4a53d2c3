-- The grammar of triggers (docs/language.md, "Units, as they are read").
use Rattle.std.specs.Prelude.{ℕ, List, ◌∷◌, Bool, true, false, Option, Some, None}
use Rattle.apex_text.specs.declared.place.Span.{Span}
use Rattle.apex_lexer.specs.declared.token.Keyword.TheVariants.{Trigger as TriggerWord, On, Before, After, Insert as InsertWord, Update as UpdateWord, Delete as DeleteWord}
use Rattle.apex_lexer.specs.declared.token.Sign.TheVariants.{Comma, OpenParen, CloseParen}
use Rattle.apex_lexer.specs.declared.token.TokenKind.{TokenKind}
use Rattle.apex_lexer.specs.declared.token.TokenKind.TheVariants.{Keyword as IsWord, End}
use Rattle.apex_lexer.specs.Reading.{Shown}
use Rattle.apex_syntax.specs.declared.stmt.Body.{Body}
use Rattle.apex_syntax.specs.declared.unit.EventOp.{EventOp}
use Rattle.apex_syntax.specs.declared.unit.EventOp.TheVariants.{Insert, Update, Delete}
use Rattle.apex_syntax.specs.declared.unit.EventTree.{EventTree}
use Rattle.apex_syntax.specs.declared.unit.TriggerTree.{TriggerTree}
use Rattle.apex_syntax.specs.declared.unit.Unit.{Unit as Tree}
use Rattle.apex_syntax.specs.declared.unit.Unit.TheVariants.{Trigger as TriggerUnit}
use Rattle.token_grammar.specs.declared.read.Names.TheVariants.{InCode}
use Rattle.token_grammar.specs.Notation.{Rule, Give, Here, Since, Is, Take, Then, Many}
use Rattle.token_grammar.specs.Tokens.{sign, word, name, next_sign, open_sign}
use Rattle.apex_parse_unit.specs.declared.part.TriggerHead.{TriggerHead}
use Rattle.apex_parse_unit.specs.Names.{unit_name}
use Rattle.apex_parse_unit.specs.Members.{body}

-- whether an event comes after the change
abbrev pub time_kind : TokenKind → Option Bool
time_kind (IsWord Before) = Some false
time_kind (IsWord After) = Some true
time_kind _ = None

abbrev pub time_of : Shown → Option Bool
time_of t = time_kind t.kind

abbrev pub change_kind : TokenKind → Option EventOp
change_kind (IsWord InsertWord) = Some Insert
change_kind (IsWord UpdateWord) = Some Update
change_kind (IsWord DeleteWord) = Some Delete
change_kind _ = None

abbrev pub change_of : Shown → Option EventOp
change_of t = change_kind t.kind

abbrev pub event : Rule EventTree
event = Then Here (λ i. Then (Take time_of) (λ a. Then (Take change_of) (λ o. Then (Since i) (λ sp. Give (record { span = sp; after = a; op = o })))))

abbrev pub comma_event : Rule EventTree
comma_event = Then (sign Comma) (λ _. event)

abbrev pub more_events : EventTree → Rule (List EventTree)
more_events e = Then (Many (next_sign Comma) comma_event) (λ es. Give (e ∷ es))

abbrev pub all_events : Rule (List EventTree)
all_events = Then event (λ e. more_events e)

abbrev pub events : ℕ → Rule (List EventTree)
events room = Then (open_sign OpenParen room) (λ _. Then all_events (λ es. Then (sign CloseParen) (λ _. Give es)))

abbrev pub trigger_head : Rule TriggerHead
trigger_head =
    Then (word TriggerWord) (λ _. Then unit_name (λ x. Then (word On) (λ _. Then (name InCode) (λ o. Give (record { name = x; object = o })))))

abbrev pub trigger_tree : Span → TriggerHead → List EventTree → Body → TriggerTree
trigger_tree sp h es b = record { span = sp; name = h.name.word; written = h.name.written; object = h.object; events = es; body = b }

abbrev pub trigger : ℕ → Rule TriggerTree
trigger room =
    Then Here (λ i. Then trigger_head (λ h. Then (events room) (λ es. Then (body room) (λ b. Then (Since i) (λ sp. Give (trigger_tree sp h es b))))))

abbrev pub trigger_whole : ℕ → Rule Tree
trigger_whole room = Then (trigger room) (λ t. Then (Is End) (λ _. Give (TriggerUnit t)))
