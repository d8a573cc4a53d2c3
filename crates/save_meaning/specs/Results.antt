-- How code, saves and queries of a request come out (docs/platform.md, "Requests").
use Rattle.std.specs.Prelude.{ℕ}
use Rattle.apex_num.specs.declared.kind.LimitKind.{LimitKind}
use Rattle.apex_rows.specs.declared.query.Question.{Question}

-- an end that nothing sees: no handler, no savepoint, no partial success
pub data Finish : Type 0 where
  Halts : LimitKind → ℕ → Finish  -- a charge passed its limit, to this number
  Needs : Question → Finish  -- a question is asked past the last answer
  Unfinished : Finish  -- the rounds that an evaluator may make are used up
  Unbuilt : Finish  -- a form comes that isn't built yet

-- why nothing follows: what is left so, which a handler may see (of a save: what is thrown), or an end
pub data Stop (E : Type 0) : Type 0 where
  Leaves : E → Stop E
  Closes : Finish → Stop E

-- a value or a stop, and the state there
pub data Res (S E A : Type 0) : Type 0 where
  Gives : A → S → Res S E A
  Stops : Stop E → S → Res S E A

-- one part after the other
abbrev pub bind : {S E A B : Type 0} → Res S E A → (A → S → Res S E B) → Res S E B
bind (Gives a s) go = go a s
bind (Stops why s) go = Stops why s

-- what is left becomes something else; an end stays
abbrev pub leaves_as : {E F : Type 0} → (E → F) → Stop E → Stop F
leaves_as f (Leaves e) = Leaves (f e)
leaves_as f (Closes end) = Closes end

abbrev pub leaving : {S E F A : Type 0} → (E → F) → Res S E A → Res S F A
leaving f (Gives a s) = Gives a s
leaving f (Stops why s) = Stops (leaves_as f why) s

-- what holds of the value, or of the stop
abbrev pub Holds : {S E A : Type 0} → (A → S → Type 0) → (Stop E → S → Type 0) → Res S E A → Type 0
Holds ok end (Gives a s) = ok a s
Holds ok end (Stops why s) = end why s
