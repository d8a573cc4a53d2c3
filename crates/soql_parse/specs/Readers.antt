-- What is known of a call that reads binds.
use Rattle.std.specs.Prelude.{ℕ, List, Result}
use Rattle.apex_lexer.specs.declared.token.Token.{Token}
use Rattle.apex_syntax.specs.declared.query.BindTree.{BindTree}
use Rattle.token_grammar.specs.declared.fault.Stop.{Stop}
use Rattle.token_grammar.specs.Notation.{Rule}
use Rattle.token_grammar.specs.Readings.{Told}

-- whatever it answers at a place, where so many forms may be open inside of the bind, tells by the rule
abbrev pub BindsBy : List Token → (ℕ → ℕ → Result (BindTree × ℕ) Stop → Type 0) → (ℕ → Rule BindTree) → Type 0
BindsBy tokens answers rule = (place room : ℕ) (answer : Result (BindTree × ℕ) Stop) → answers place room answer → Told tokens (rule room) place answer
