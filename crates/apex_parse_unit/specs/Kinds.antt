-- What tells the kind of a unit (docs/language.md, "Units, as they are read").
use Rattle.std.specs.Prelude.{List, [], ◌∷◌, Option, Some, None}
use Rattle.apex_lexer.specs.declared.token.Keyword.TheVariants.{Class as ClassWord, Interface as InterfaceWord, Trigger as TriggerWord}
use Rattle.apex_lexer.specs.declared.token.TokenKind.{TokenKind}
use Rattle.apex_lexer.specs.declared.token.TokenKind.TheVariants.{Keyword as IsWord}
use Rattle.apex_lexer.specs.Reading.{Shown}
use Rattle.apex_parse_unit.specs.declared.kind.UnitKind.{UnitKind}
use Rattle.apex_parse_unit.specs.declared.kind.UnitKind.TheVariants.{Class, Interface, Trigger}

abbrev pub kind_word : TokenKind → Option UnitKind
kind_word (IsWord ClassWord) = Some Class
kind_word (IsWord InterfaceWord) = Some Interface
kind_word (IsWord TriggerWord) = Some Trigger
kind_word _ = None

abbrev pub or_else : Option UnitKind → UnitKind → UnitKind
or_else (Some kind) later = kind
or_else None later = later

-- what the first word that is `class`, `interface` or `trigger` says, and a class where there is none
abbrev pub unit_kind : List Shown → UnitKind
unit_kind [] = Class
unit_kind (t ∷ ts) = or_else (kind_word t.kind) (unit_kind ts)
