-- Methods behind what they answer.
use Rattle.std.specs.Prelude.{◌≡◌, ℕ, List, Result}
use Rattle.std.proofs.Common.{subst}
use Rattle.apex_text.specs.declared.place.Span.{Span}
use Rattle.apex_lexer.specs.declared.token.Token.{Token}
use Rattle.apex_syntax.specs.declared.expr.TypeTree.{TypeTree}
use Rattle.apex_syntax.specs.declared.unit.ParamTree.{ParamTree}
use Rattle.apex_syntax.specs.declared.unit.ResultTree.{ResultTree}
use Rattle.apex_syntax.specs.declared.unit.SignatureTree.{SignatureTree}
use Rattle.apex_syntax.specs.declared.word.Word.{Word}
use Rattle.token_grammar.specs.declared.fault.Stop.{Stop}
use Rattle.token_grammar.specs.Readings.{Told}
use Rattle.apex_parse_unit.specs.declared.part.MemberBody.{MemberBody}
use Rattle.apex_parse_unit.specs.Members.{method_rest}

pub answered_by : (room : ℕ) (name : Word) {tokens : List Token} {at : ℕ} {answer other : ResultTree} {o : Result (MemberBody × ℕ) Stop} → answer ≡ other → Told tokens (method_rest room answer name) at o → Told tokens (method_rest room other name) at o
answered_by room name {tokens = tokens} {at = at} {o = o} e h = subst (λ r. Told tokens (method_rest room r name) at o) e h

-- ---- trees by one of their parts

abbrev pub param_tree : Span → Word → TypeTree → ParamTree
param_tree s x t = record { span = s; kind = t; name = x }

abbrev pub signature_tree : Span → Word → List ParamTree → ResultTree → SignatureTree
signature_tree s x ps r = record { span = s; result = r; name = x; params = ps }
