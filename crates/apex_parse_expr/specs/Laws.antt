-- What ties the tests of tokens to the rules that they stand before.
use Rattle.std.specs.Prelude.{◌≡◌, ◌+◌, ◌⊎◌, ℕ, List, true}
use Rattle.apex_lexer.specs.Reading.{Shown}
use Rattle.apex_lexer.specs.declared.token.Sign.TheVariants.{OpenParen, OpenBracket}
use Rattle.token_grammar.specs.declared.read.Names.TheVariants.{InCode}
use Rattle.token_grammar.specs.Notation.{Rule, Test, Reads, kind_at}
use Rattle.token_grammar.specs.Tokens.{next_sign, next_name}
use Rattle.apex_parse_leaf.specs.declared.level.Level.{Level}
use Rattle.apex_parse_leaf.specs.Types.{type}
use Rattle.apex_parse_leaf.specs.Casts.{begins_operand}
use Rattle.apex_parse_leaf.specs.Leaves.{step, next_step, prefix_op, next_prefix, op, next_op, assign_op, next_assign, next_part}
use Rattle.apex_parse_expr.specs.Exprs.{expr, unary, part, deeper_expr}

-- wherever something is read by the rule, the test holds
abbrev pub Begins : {A : Type 0} → Rule A → Test → Type 0
Begins {A} rule test = (tokens : List Shown) (at : ℕ) (x : A) (end : ℕ) → Reads tokens rule at x end → test tokens at

-- wherever the test holds, one token is read by the rule
abbrev pub Meets : {A : Type 0} → Rule A → Test → Type 0
Meets {A} rule test = (tokens : List Shown) (at : ℕ) → test tokens at → (x : A) × Reads tokens rule at x (at + 1)

-- what an expression begins with: a prefix operator, a parenthesis, a bracket, or what may be cast
abbrev pub next_expr : Test
next_expr tokens at = next_prefix tokens at ⊎ (next_sign OpenParen tokens at ⊎ (next_sign OpenBracket tokens at ⊎ (begins_operand (kind_at tokens at) ≡ true)))

pub record TokenLaws : Type 0 where
  pub steps : Begins step next_step
  pub step_there : Meets step next_step
  pub prefixes : Begins prefix_op next_prefix
  pub prefix_there : Meets prefix_op next_prefix
  pub ops : (level : Level) → Begins (op level) (next_op level)
  pub op_there : (level : Level) → Meets (op level) (next_op level)
  pub assigns : Begins assign_op (next_assign true)
  pub assign_there : Meets assign_op (next_assign true)

pub record BeginLaws : Type 0 where
  pub types : (room : ℕ) → Begins (type room) (next_name InCode)
  pub parts : (room : ℕ) → Begins (part room (deeper_expr room)) next_part
  pub operands : (room : ℕ) → Begins (unary room) next_expr
  pub exprs : (room : ℕ) → Begins (expr room) next_expr
