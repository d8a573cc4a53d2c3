-- Names of units (docs/language.md, "Units, as they are read").
use Rattle.std.specs.Prelude.{Option, Some, None, cond}
use Rattle.apex_lexer.specs.Reading.{Shown}
use Rattle.token_grammar.specs.declared.read.Names.TheVariants.{InCode}
use Rattle.token_grammar.specs.Notation.{Rule, Take}
use Rattle.token_grammar.specs.Tokens.{is_name, named}
use Rattle.apex_parse_unit.specs.declared.part.UnitName.{UnitName}

-- a name, folded and as it is written
abbrev pub unit_name_of : Shown → Option UnitName
unit_name_of t = cond (is_name InCode t.kind) (Some (record { word = named t; written = t.bytes })) None

abbrev pub unit_name : Rule UnitName
unit_name = Take unit_name_of
