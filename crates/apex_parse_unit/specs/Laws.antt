-- Laws of the grammar of members.
use Rattle.std.specs.Prelude.{ℕ, List}
use Rattle.apex_lexer.specs.Reading.{Shown}
use Rattle.apex_syntax.specs.declared.unit.MemberTree.{MemberTree}
use Rattle.apex_syntax.specs.declared.unit.SignatureTree.{SignatureTree}
use Rattle.token_grammar.specs.Notation.{Reads}
use Rattle.apex_parse_unit.specs.Classes.{signature}
use Rattle.apex_parse_unit.specs.Members.{member, next_if, begins_member, begins_result}

-- what is read as a member begins with a token by which one is known to begin
abbrev pub MemberBegins : Type 0
MemberBegins = (tokens : List Shown) (room at : ℕ) (m : MemberTree) (end : ℕ) → Reads tokens (member room) at m end → next_if begins_member tokens at

-- and so is what is read as a method of an interface
abbrev pub SignatureBegins : Type 0
SignatureBegins = (tokens : List Shown) (room at : ℕ) (s : SignatureTree) (end : ℕ) → Reads tokens (signature room) at s end → next_if begins_result tokens at
