-- What is to be shown of the rounds that code may make (docs/language.md, "What code does").
use Rattle.std.specs.Prelude.{◌≡◌, List}
use Rattle.apex_rows.specs.declared.query.Answer.{Answer}
use Rattle.save_meaning.specs.Results.{Stops, Closes, Unfinished}
use Rattle.request_states.specs.Runs.{Setting, first_state}
use Rattle.request_states.specs.States.{State}
use Rattle.typed_program.specs.declared.stmt.TypedStmt.{TypedStmt}
use Rattle.apex_meaning.specs.Runs.{block_does}

-- no block uses up its rounds: whatever it does, it comes to its end, it is left, it asks, it halts, or it meets what isn't built
abbrev pub RoundsSuffice : Type 0
RoundsSuffice =
    (setting : Setting) (block : List TypedStmt) (tape : List Answer) (st : State) →
    block_does setting block (first_state tape) ≡ Stops (Closes Unfinished) st → ⊥
