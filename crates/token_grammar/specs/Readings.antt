-- What a call that reads by a rule tells: of the tokens that it is given it tells what they show.
use Rattle.std.specs.Prelude.{◌≡◌, ℕ, List, Result, Ok, Err}
use Rattle.apex_text.specs.declared.place.Span.{Span}
use Rattle.apex_lexer.specs.declared.token.Token.{Token}
use Rattle.apex_lexer.specs.declared.token.TokenKind.{TokenKind}
use Rattle.token_grammar.specs.declared.fault.ParseWord.{ParseWord}
use Rattle.token_grammar.specs.declared.fault.Stop.{Stop}
use Rattle.token_grammar.specs.declared.fault.Stop.TheVariants.{At, NoMemory}
use Rattle.token_grammar.specs.declared.fault.ParseFault.{ParseFault}
use Rattle.token_grammar.specs.declared.fault.ParseFault.TheVariants.{Wrong, NoMemory as Unmade}
use Rattle.token_grammar.specs.Notation.{Rule, Is, Reads, Stops, seen, span_at}

abbrev pub StopsBy : List Token → {A : Type 0} → Rule A → ℕ → Stop → Type 0
StopsBy tokens rule at (At word place) = Stops (seen tokens) rule at word place
StopsBy tokens rule at NoMemory = Unit {0}

abbrev pub Tells : List Token → {A : Type 0} → Rule A → ℕ → Result (A × ℕ) Stop → Type 0
Tells tokens rule at (Ok read) = Reads (seen tokens) rule at read.0 read.1
Tells tokens rule at (Err stop) = StopsBy tokens rule at stop

-- the answer has what is read and the place behind it, or where the reading stops; want of memory is free
pub record Told (tokens : List Token) {A : Type 0} (rule : Rule A) (at : ℕ) (answer : Result (A × ℕ) Stop) : Type 0 where
  pub by : Tells tokens rule at answer

-- whatever a reader answers at a place tells by the rule
abbrev pub ReadsBy : List Token → {A : Type 0} → (ℕ → Result (A × ℕ) Stop → Type 0) → Rule A → Type 0
ReadsBy tokens {A} answers rule = (place : ℕ) (answer : Result (A × ℕ) Stop) → answers place answer → Told tokens rule place answer

-- the same of a call that takes no memory
abbrev pub StopsAt : List Token → {A : Type 0} → Rule A → ℕ → Stop → Type 0
StopsAt tokens rule at (At word place) = Stops (seen tokens) rule at word place
StopsAt tokens rule at NoMemory = ⊥

abbrev pub Passes : List Token → TokenKind → ℕ → Result ℕ Stop → Type 0
Passes tokens kind at (Ok end) = Reads (seen tokens) (Is kind) at tt end
Passes tokens kind at (Err stop) = StopsAt tokens (Is kind) at stop

-- why a reading stops is no want of memory
abbrev pub IsNoMemory : Stop → Type 0
IsNoMemory (At word place) = ⊥
IsNoMemory NoMemory = Unit {0}

-- the answer has the place behind one token that says just this, or where the reading stops; it takes no memory
pub record Passed (tokens : List Token) (kind : TokenKind) (at : ℕ) (answer : Result ℕ Stop) : Type 0 where
  pub by : Passes tokens kind at answer

-- the fault of a reading that stopped
abbrev pub fault_of : List Token → Stop → ParseFault
fault_of tokens (At word place) = Wrong word (span_at (seen tokens) place)
fault_of tokens NoMemory = Unmade

-- ---- what a public call says

-- the tokens are this by the rule, up to this place, and nothing else
pub record Found (tokens : List Token) {A : Type 0} (rule : Rule A) (at : ℕ) (tree : A) (end : ℕ) : Type 0 where
  pub reads : Reads (seen tokens) rule at tree end
  pub only : (other : A) (place : ℕ) → Reads (seen tokens) rule at other place → (other ≡ tree) × (place ≡ end)
  pub unstopped : (word : ParseWord) (place : ℕ) → Stops (seen tokens) rule at word place → ⊥

-- the reading stops with this word at the token with this span, at no other one, and the tokens are nothing by the rule
pub record Refused (tokens : List Token) {A : Type 0} (rule : Rule A) (at : ℕ) (word : ParseWord) (span : Span) : Type 0 where
  pub place : ℕ
  pub stops : Stops (seen tokens) rule at word place
  pub is_span : span ≡ span_at (seen tokens) place
  pub only : (other : ParseWord) (there : ℕ) → Stops (seen tokens) rule at other there → (other ≡ word) × (there ≡ place)
  pub none : (tree : A) (end : ℕ) → Reads (seen tokens) rule at tree end → ⊥

abbrev pub RefusedBy : List Token → {A : Type 0} → Rule A → ℕ → ParseFault → Type 0
RefusedBy tokens rule at (Wrong word span) = Refused tokens rule at word span
RefusedBy tokens rule at Unmade = Unit {0}
