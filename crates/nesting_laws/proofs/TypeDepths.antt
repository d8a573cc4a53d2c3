-- A type that was read nests no deeper than there was room.
use Rattle.std.specs.Prelude.{◌≡◌, ◌≤◌, ℕ, zero, suc, max, cond, eqb, Bool, true, false, List, [], ◌∷◌, Option, map, length}
use Rattle.std.proofs.Common.{arith}
use Rattle.std.proofs.Math.Nat.{le_trans, max-le, le-max_left}
use Rattle.apex_text.specs.declared.place.Span.{Span}
use Rattle.apex_lexer.specs.declared.token.Sign.TheVariants.{Less, OpenBracket}
use Rattle.apex_syntax.specs.Depths.{type_depth, type_step, args_open, arrays_open, most}
use Rattle.apex_syntax.specs.declared.expr.TypeTree.{TypeTree}
use Rattle.apex_syntax.specs.declared.expr.TypeTree.TheFolds.{fold-roll-TypeTree}
use Rattle.apex_syntax.specs.declared.expr.TypeTree.TheViews.{roll-TypeTree}
use Rattle.apex_syntax.specs.declared.word.Word.{Word}
use Rattle.token_grammar.specs.declared.fault.ParseWord.TheVariants.{TooDeep}
use Rattle.token_grammar.specs.Notation.{Rule}
use Rattle.token_grammar.specs.Tokens.{refuse_here}
use Rattle.nesting_laws.proofs.Keeps.{Keeps, gives, always, first, past, either, many, opens_sign, opened_within, one_within, is_within, refused_here, inside_is}
use Rattle.apex_parse_leaf.specs.Types.{type, type_with, args_part, second_arg, pair, arrays, deeper_type}

type_is : (s : Span) (x : Word) (m : Option Word) (ts : List TypeTree) (k : ℕ) → type_depth (roll-TypeTree (record { span = s; name = x; member = m; args = ts; arrays = k })) ≡ max (args_open (map type_depth ts)) (arrays_open k)
type_is s x m ts k = fold-roll-TypeTree ℕ type_step (record { span = s; name = x; member = m; args = ts; arrays = k })

-- what reads a type in a form that is opened, where so many may be open
abbrev pub Inner : Rule TypeTree → ℕ → Type 0
Inner deeper room = (inside : ℕ) → room ≡ suc inside → Keeps deeper (λ t. type_depth t ≤ inside)

second_within : (deeper : Rule TypeTree) (a : TypeTree) (room inside : ℕ) → room ≡ suc inside → Keeps deeper (λ t. type_depth t ≤ inside) → type_depth a ≤ inside → Keeps (second_arg deeper a) (λ ts. args_open (map type_depth ts) ≤ room)
second_within deeper a room inside e k h =
    either (past (λ u. first k (λ b j. gives (opened_within (max-le h (max-le j (omega arith))) e))))
    (gives (opened_within (max-le h (omega arith)) e))

args_within : (room : ℕ) (deeper : Rule TypeTree) → Inner deeper room → Keeps (args_part room deeper) (λ ts. args_open (map type_depth ts) ≤ room)
args_within room deeper k =
    either (first (opens_sign Less room) (λ inside e. first (k inside e) (λ a h. first (second_within deeper a room inside e (k inside e) h) (λ ts j. past (λ u. gives j)))))
    (gives (omega arith))

pair_within : (room : ℕ) → Keeps (pair room) (λ p. 1 ≤ room)
pair_within room = first (opens_sign OpenBracket room) (λ inside e. always (λ p. one_within e))

one_at_most : (b : Bool) → cond b 0 1 ≤ 1
one_at_most true = omega arith
one_at_most false = omega arith

counted : (room : ℕ) (ps : List (Unit {0})) → most (map (λ p. 1) ps) ≤ room → arrays_open (length ps) ≤ room
counted room [] h = omega arith
counted room (p ∷ ps) h = le_trans (one_at_most (eqb (length (p ∷ ps)) 0)) (le_trans (le-max_left 1 (most (map (λ q. 1) ps))) h)

arrays_within : (room : ℕ) → Keeps (arrays room) (λ k. arrays_open k ≤ room)
arrays_within room = first (many (λ p. 1) (pair_within room)) (λ ps h. gives (counted room ps h))

type_with_within : (room : ℕ) (deeper : Rule TypeTree) → Inner deeper room → Keeps (type_with room deeper) (λ t. type_depth t ≤ room)
type_with_within room deeper k =
    past (λ i. past (λ x. past (λ m. first (args_within room deeper k) (λ ts h. first (arrays_within room) (λ n j.
    past (λ s. gives (is_within (type_is s x m ts n) (max-le h j))))))))

pub type_within : (room : ℕ) → Keeps (type room) (λ t. type_depth t ≤ room)
type_within zero = type_with_within zero (refuse_here TooDeep) (λ inside e. refused_here)
type_within (suc room) = type_with_within (suc room) (type room) (λ inside e. inside_is type_depth e (type_within room))

pub deeper_type_within : (room : ℕ) → Inner (deeper_type room) room
deeper_type_within zero inside e = refused_here
deeper_type_within (suc room) inside e = inside_is type_depth e (type_within room)
