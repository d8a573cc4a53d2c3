-- Names that stand before a dot and are no values (docs/language.md, "Names in code").
use Rattle.std.specs.Prelude.{ℕ, cond, List, [], ◌∷◌, codes, bytes_eq, option_map, Option, None, Some}
use Rattle.fault_words.specs.declared.fault.FaultWord.TheVariants.{DoubleRefused, UnknownName}
use Rattle.apex_syntax.specs.declared.word.Word.{Word}
use Rattle.name_meanings.specs.declared.space.SpaceRow.{SpaceRow}
use Rattle.schema_names.specs.Names.{place_of}
use Rattle.static_types.specs.declared.named.TypeName.{TypeName}
use Rattle.static_types.specs.declared.named.TypeName.TheVariants as T
use Rattle.static_types.specs.Names.{type_names, said as says}
use Rattle.type_names.specs.declared.head.TypeHead.{TypeHead}
use Rattle.type_names.specs.declared.head.TypeHead.TheVariants as H
use Rattle.type_names.specs.TypeTrees.{Known, or_else}
use Rattle.type_names.specs.Walks.{Walk, Gives, wrong}
use Rattle.typed_values.specs.declared.typed.Space.{Space}
use Rattle.typed_values.specs.declared.typed.Space.TheVariants as S

abbrev pub space_in : List SpaceRow → List ℕ → Option Space
space_in [] name = None
space_in (r ∷ rs) name = cond (bytes_eq r.word.now name) (Some r.space) (space_in rs name)

-- `System.` may stand before these
abbrev pub library_word : List ℕ → Option Space
library_word name =
    cond (bytes_eq (codes "math") name) (Some S.Math)
    (cond (bytes_eq (codes "limits") name) (Some S.Limits)
    (cond (bytes_eq (codes "userinfo") name) (Some S.UserInfo)
    (cond (bytes_eq (codes "database") name) (Some S.Database) None)))

abbrev pub alone_word : List ℕ → Option Space
alone_word name = cond (bytes_eq (codes "system") name) (Some S.System) (cond (bytes_eq (codes "trigger") name) (Some S.Trigger) None)

abbrev pub or_alone : Option Space → List ℕ → Option Space
or_alone (Some space) name = Some space
or_alone None name = alone_word name

abbrev pub platform_word : List ℕ → Option Space
platform_word name = or_alone (library_word name) name

abbrev pub type_space : TypeName → ℕ → Walk Space
type_space T.Double at = wrong DoubleRefused at
type_space named at = Gives (S.Named named)

abbrev pub head_space : TypeHead → ℕ → Walk Space
head_space (H.Named named) at = type_space named at
head_space (H.Record n) at = Gives (S.Record n)
head_space (H.Class n) at = Gives (S.Class n)
head_space (H.Platform kind) at = wrong UnknownName at

abbrev pub type_or : Option TypeHead → ℕ → Walk Space
type_or (Some head) at = head_space head at
type_or None at = wrong UnknownName at

-- before a dot a class comes before an object
abbrev pub before_dot : Known → List ℕ → Option TypeHead
before_dot known name =
    or_else (option_map H.Named (says type_names name))
    (or_else (option_map H.Class (place_of known.classes name)) (option_map H.Record (place_of known.objects name)))

-- a word of the platform, a built-in type, a class or an object, in this order
abbrev pub space_or : Option Space → Option TypeHead → ℕ → Walk Space
space_or (Some space) head at = Gives space
space_or None head at = type_or head at

abbrev pub space_named : Known → Word → Walk Space
space_named known w = space_or (platform_word w.name) (before_dot known w.name) w.span.from

abbrev pub named_or : Option TypeName → ℕ → Word → Walk Space
named_or (Some named) at w = type_space named at
named_or None at w = wrong UnknownName w.span.from

abbrev pub system_or : Option Space → ℕ → Word → Walk Space
system_or (Some space) at w = Gives space
system_or None at w = named_or (says type_names w.name) at w

abbrev pub system_member : ℕ → Word → Walk Space
system_member at w = system_or (library_word w.name) at w
