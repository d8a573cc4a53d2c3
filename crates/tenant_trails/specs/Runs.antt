-- What a request comes to on a store (docs/platform.md, "Trails").
use Rattle.std.specs.Prelude.{◌≡◌, ℕ, List, [], ◌∷◌, ◌++◌}
use Rattle.apex_rows.specs.declared.query.Question.{Question}
use Rattle.apex_rows.specs.declared.query.Question.TheVariants.{Read, Grab}
use Rattle.apex_rows.specs.declared.query.Answer.{Answer}
use Rattle.apex_requests.specs.declared.reply.Reply.{Reply}
use Rattle.apex_rows.specs.declared.row.Row.{Row}
use Rattle.apex_rows.specs.declared.row.Writes.{Writes}
use Rattle.record_store.specs.Places.{answer_to}

-- on a tape of answers a request asks a further question, or ends with its reply and what it writes
pub data Run : Type 0 where
  Asks : Question → Run
  Ends : Reply → Writes → Run

-- each answer of a tape is what the store answers to the question that is asked on the answers before it
abbrev pub Follows : List Row → (List Answer → Run) → List Answer → List Answer → Type 0
Follows store run before [] = Unit {0}
Follows store run before (a ∷ more) =
    (q : Question) × (run before ≡ Asks q) × (a ≡ answer_to store q) × Follows store run (before ++ a ∷ []) more

-- the lists of rows that are asked for alone
abbrev pub ids_asked : Question → List (List (List ℕ))
ids_asked (Read object cond) = []
ids_asked (Grab ids) = ids ∷ []

abbrev pub ids_of_run : Run → List (List (List ℕ))
ids_of_run (Asks q) = ids_asked q
ids_of_run (Ends reply writes) = []

abbrev pub grabs_on : (List Answer → Run) → List Answer → List Answer → List (List (List ℕ))
grabs_on run before [] = []
grabs_on run before (a ∷ more) = ids_of_run (run before) ++ grabs_on run (before ++ a ∷ []) more

-- on a store a request comes to this reply and these writes, and asks for these lists of rows on the way
pub record Evaluates (store : List Row) (run : List Answer → Run) (reply : Reply) (writes : Writes) (grabs : List (List (List ℕ))) : Type 0 where
  pub tape : List Answer
  pub follows : Follows store run [] tape
  pub ends : run tape ≡ Ends reply writes
  pub grabs_are : grabs ≡ grabs_on run [] tape

-- a tenant: its rows at first, how many requests each session has, and what request i of session s does on a tape
pub record Tenant : Type 0 where
  pub seed : List Row
  pub requests : List ℕ
  pub run : ℕ → ℕ → List Answer → Run
