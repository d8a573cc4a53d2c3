-- A unit that was read nests no deeper than there was room.
use Rattle.std.specs.Prelude.{◌≡◌, ◌≤◌, ℕ, max, List, map}
use Rattle.std.proofs.Common.{refl, arith}
use Rattle.std.proofs.Math.Nat.{max-le}
use Rattle.apex_text.specs.declared.place.Span.{Span}
use Rattle.apex_lexer.specs.declared.token.Sign.TheVariants as S
use Rattle.apex_syntax.specs.Depths.{most, opened, type_depth, some_expr, body_depth, some_body, result_depth, param_depth, params_depth, member_depth, signature_depth, unit_depth}
use Rattle.apex_syntax.specs.declared.expr.TypeTree.{TypeTree}
use Rattle.apex_syntax.specs.declared.unit.MemberModifier.{MemberModifier}
use Rattle.apex_syntax.specs.declared.unit.ResultTree.{ResultTree}
use Rattle.apex_syntax.specs.declared.unit.ResultTree.TheVariants.{«Type» as Typed}
use Rattle.apex_syntax.specs.declared.word.Word.{Word}
use Rattle.token_grammar.specs.Tokens.{next_sign}
use Rattle.nesting_laws.proofs.Keeps.{Keeps, gives, always, first, past, either, many, opens_sign, opened_within, one_within, is_within}
use Rattle.nesting_laws.proofs.TypeDepths.{type_within}
use Rattle.apex_parse_stmt.specs.Stmts.{deeper_stmt}
use Rattle.nesting_laws.proofs.StmtDepths.{block_within, deeper_stmt_within, value_part}
use Rattle.apex_parse_unit.specs.declared.part.MemberBody.{MemberBody}
use Rattle.apex_parse_unit.specs.declared.part.MemberBody.TheVariants as M
use Rattle.apex_parse_unit.specs.Members.{void_result, result_tree, param, params, body, method_end, method_rest, accessors, typed_rest, member_body, member_tree, member}
use Rattle.apex_parse_unit.specs.Classes.{class, signature, interface, class_or_interface}
use Rattle.apex_parse_unit.specs.Triggers.{events, trigger, trigger_whole}

-- ---- parameters and bodies

void_within : (room : ℕ) → Keeps void_result (λ r. result_depth r ≤ room)
void_within room = past (λ i. past (λ u. past (λ sp. gives (omega arith))))

result_within : (room : ℕ) → Keeps (result_tree room) (λ r. result_depth r ≤ room)
result_within room = either (void_within room) (first (type_within room) (λ t h. gives h))

param_within : (room : ℕ) → Keeps (param room) (λ p. param_depth p ≤ room)
param_within room = past (λ i. first (type_within room) (λ t h. past (λ x. past (λ sp. gives h))))

params_within : (room : ℕ) → Keeps (params room) (λ ps. params_depth ps ≤ room)
params_within room =
    first (opens_sign S.OpenParen room) (λ inside o.
    first {Q = λ ps. most (map param_depth ps) ≤ inside} (either (first (param_within inside) (λ p h. first (many param_depth (past (λ u. param_within inside))) (λ ps g. gives (max-le h g)))) (gives (omega arith)))
    (λ ps h. past (λ u. gives (opened_within h o))))

body_within : (room : ℕ) → Keeps (body room) (λ b. body_depth b ≤ room)
body_within room = block_within room (deeper_stmt room) (deeper_stmt_within room)

-- ---- members

abbrev member_open : MemberBody → ℕ
member_open (M.Field t x v) = max (type_depth t) (some_expr v)
member_open (M.Property t x) = max (type_depth t) 1
member_open (M.Method r x ps b) = max (result_depth r) (max (params_depth ps) (some_body b))
member_open (M.Constructor x ps b) = max (params_depth ps) (body_depth b)

member_is : (sp : Span) (ms : List MemberModifier) (b : MemberBody) → member_depth (member_tree sp ms b) ≡ member_open b
member_is sp ms (M.Field t x v) = refl
member_is sp ms (M.Property t x) = refl
member_is sp ms (M.Method r x ps b) = refl
member_is sp ms (M.Constructor x ps b) = refl

end_within : (room : ℕ) → Keeps (method_end room) (λ b. some_body b ≤ room)
end_within room = either (first (body_within room) (λ b h. gives h)) (past (λ u. gives (omega arith)))

method_within : (room : ℕ) (r : ResultTree) (x : Word) → result_depth r ≤ room → Keeps (method_rest room r x) (λ b. member_open b ≤ room)
method_within room r x i = first (params_within room) (λ ps h. first (end_within room) (λ b g. gives (max-le i (max-le h g))))

accessors_within : (room : ℕ) → Keeps (accessors room) (λ u. 1 ≤ room)
accessors_within room = first (opens_sign S.OpenBrace room) (λ inside o. always (λ u. one_within o))

typed_rest_within : (room : ℕ) (t : TypeTree) (x : Word) → type_depth t ≤ room → Keeps (typed_rest room t x) (λ b. member_open b ≤ room)
typed_rest_within room t x i =
    either (method_within room (Typed t) x i)
    (either (first (accessors_within room) (λ u h. gives (max-le i h)))
    (first (value_part room (next_sign S.Assign)) (λ v h. past (λ u. gives (max-le i h)))))

member_body_within : (room : ℕ) → Keeps (member_body room) (λ b. member_open b ≤ room)
member_body_within room =
    either (first (void_within room) (λ r h. past (λ x. method_within room r x h)))
    (either (past (λ x. first (params_within room) (λ ps h. first (body_within room) (λ b g. gives (max-le h g)))))
    (first (type_within room) (λ t h. past (λ x. typed_rest_within room t x h))))

member_within : (room : ℕ) → Keeps (member room) (λ m. member_depth m ≤ room)
member_within room = past (λ i. past (λ ms. first (member_body_within room) (λ b h. past (λ sp. gives (is_within (member_is sp ms b) h)))))

signature_within : (room : ℕ) → Keeps (signature room) (λ s. signature_depth s ≤ room)
signature_within room = past (λ i. first (result_within room) (λ r h. past (λ x. first (params_within room) (λ ps g. past (λ u. past (λ sp. gives (max-le h g)))))))

-- ---- units

class_within : (room : ℕ) → Keeps (class room) (λ c. opened (most (map member_depth c.members)) ≤ room)
class_within room =
    past (λ i. past (λ h.
    first {Q = λ ms. opened (most (map member_depth ms)) ≤ room} (first (opens_sign S.OpenBrace room) (λ inside o. first (many member_depth (member_within inside)) (λ ms g. past (λ u. gives (opened_within g o)))))
    (λ ms g. past (λ sp. gives g))))

interface_within : (room : ℕ) → Keeps (interface room) (λ c. opened (most (map signature_depth c.methods)) ≤ room)
interface_within room =
    past (λ i. past (λ h.
    first {Q = λ ms. opened (most (map signature_depth ms)) ≤ room} (first (opens_sign S.OpenBrace room) (λ inside o. first (many signature_depth (signature_within inside)) (λ ms g. past (λ u. gives (opened_within g o)))))
    (λ ms g. past (λ sp. gives g))))

events_within : (room : ℕ) → Keeps (events room) (λ es. 1 ≤ room)
events_within room = first (opens_sign S.OpenParen room) (λ inside o. always (λ es. one_within o))

trigger_within : (room : ℕ) → Keeps (trigger room) (λ t. max (body_depth t.body) 1 ≤ room)
trigger_within room = past (λ i. past (λ h. first (events_within room) (λ es o. first (body_within room) (λ b g. past (λ sp. gives (max-le g o))))))

pub class_unit_within : (room : ℕ) → Keeps (class_or_interface room) (λ u. unit_depth u ≤ room)
class_unit_within room = either (first (interface_within room) (λ c h. past (λ u. gives h))) (first (class_within room) (λ c h. past (λ u. gives h)))

pub trigger_unit_within : (room : ℕ) → Keeps (trigger_whole room) (λ u. unit_depth u ≤ room)
trigger_unit_within room = first (trigger_within room) (λ t h. past (λ u. gives h))
