-- With what members begin.
use Rattle.std.specs.Prelude.{◌≡◌, ℕ, ◌||◌, Bool, true, List, IsSome, is_some}
use Rattle.std.proofs.Common.{inl, inr, refl}
use Rattle.apex_lexer.specs.declared.token.Keyword.TheVariants as W
use Rattle.apex_lexer.specs.declared.token.TokenKind.{TokenKind}
use Rattle.apex_lexer.specs.declared.token.TokenKind.TheVariants as K
use Rattle.token_grammar.specs.declared.read.Names.TheVariants.{InCode}
use Rattle.token_grammar.specs.Notation.{kind_at}
use Rattle.token_grammar.specs.Tokens.{is_name}
use Rattle.apex_parse_unit.specs.Classes.{signature}
use Rattle.apex_parse_unit.specs.Members.{member, member_body, member_kind, result_tree, is_void, begins_member, begins_result}
use Rattle.apex_parse_stmt.proofs.Begins.{Begins, or_first, or_second, by_kind, named_begins, type_begins}

name_is_result : (k : TokenKind) → is_name InCode k ≡ true → begins_result k ≡ true
name_is_result k e = or_second (is_void k) (is_name InCode k) e

result_is_member : (k : TokenKind) → begins_result k ≡ true → begins_member k ≡ true
result_is_member k e = or_second (is_some (member_kind k)) (begins_result k) e

name_is_member : (k : TokenKind) → is_name InCode k ≡ true → begins_member k ≡ true
name_is_member k e = result_is_member k (name_is_result k e)

modifier_is_member : (k : TokenKind) → IsSome (member_kind k) → begins_member k ≡ true
modifier_is_member k h = or_first (is_some (member_kind k)) (begins_result k) h

body_begins : (room : ℕ) → Begins begins_member (member_body room)
body_begins room = (
  inr (by_kind begins_member (K.Keyword W.Void) refl),
  (inr (λ tokens at h. name_is_member (kind_at tokens at) h.0), inl (type_begins begins_member name_is_member room)),
)

pub member_begins : (room : ℕ) → Begins begins_member (member room)
member_begins room = inr (tt, λ i. inr ((λ tokens at h. modifier_is_member (kind_at tokens at) h), λ ms. inl (body_begins room)))

result_begins : (room : ℕ) → Begins begins_result (result_tree room)
result_begins room = (inr (by_kind begins_result (K.Keyword W.Void) refl), inl (type_begins begins_result name_is_result room))

pub signature_begins : (room : ℕ) → Begins begins_result (signature room)
signature_begins room = inr (tt, λ i. inl (result_begins room))
