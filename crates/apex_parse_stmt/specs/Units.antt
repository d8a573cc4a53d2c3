-- What is said of units.
use Rattle.std.specs.Prelude.{ℕ, List}
use Rattle.apex_lexer.specs.declared.token.Token.{Token}
use Rattle.apex_syntax.specs.declared.unit.Unit.{Unit}
use Rattle.apex_syntax.specs.declared.unit.Unit.TheVariants.{Block}
use Rattle.token_grammar.specs.Notation.{Rule, Give, Then}
use Rattle.token_grammar.specs.Readings.{Found}
use Rattle.apex_parse_stmt.specs.Stmts.{anonymous}

-- the statements of an anonymous block, up to the end
abbrev pub block_unit : ℕ → Rule Unit
block_unit room = Then (anonymous room) (λ xs. Give (Block xs))

-- all tokens are this unit by the rule, and nothing else
pub record WholeUnit (tokens : List Token) (rule : Rule Unit) (unit : Unit) : Type 0 where
  pub end : ℕ
  pub found : Found tokens rule 0 unit end
