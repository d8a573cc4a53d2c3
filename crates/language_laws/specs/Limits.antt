-- What is to be shown of limits (docs/platform.md, "Limits").
use Rattle.std.specs.Prelude.{◌≡◌, ℕ, ◌+◌, ◌<◌, ◌≤◌, Bool, true, false, List, ◌∷◌, ◌++◌, Option}
use Rattle.apex_num.specs.declared.kind.LimitKind.{LimitKind}
use Rattle.apex_num.specs.declared.kind.LimitKind.TheVariants.{Queries, Rows, Dml, Saved, Steps, Calls}
use Rattle.apex_requests.specs.declared.reply.Counts.{Counts}
use Rattle.apex_requests.specs.declared.reply.Outcome.TheVariants.{Ok}
use Rattle.apex_requests.specs.declared.reply.Reply.{Reply}
use Rattle.apex_rows.specs.declared.query.Answer.{Answer}
use Rattle.apex_rows.specs.declared.row.Writes.{Writes}
use Rattle.limit_meter.specs.Charges.{Entry, Charged, counter, limit_of}
use Rattle.save_meaning.specs.Results.{Finish, Halts, Gives, Stops, Closes}
use Rattle.request_states.specs.Refusals.{no_writes}
use Rattle.request_states.specs.Runs.{Setting, first_state}
use Rattle.request_states.specs.States.{State, Res, charge}
use Rattle.tenant_trails.specs.Runs.{Ends}
use Rattle.typed_program.specs.declared.stmt.TypedCatch.{TypedCatch}
use Rattle.typed_program.specs.declared.stmt.TypedStmt.{TypedStmt}
use Rattle.typed_program.specs.declared.stmt.TypedStmt.TheOpen.{TypedStmt-F}
use Rattle.typed_program.specs.declared.stmt.TypedStmt.TheViews.{roll-TypedStmt}
use Rattle.apex_meaning.specs.Runs.{block_does, block_run}

-- with a charge more
abbrev pub charged_state : LimitKind → ℕ → State → State
charged_state k n st = record st { world = record (st.world) { txn = record (st.world.txn) { charges = Charged k n ∷ st.world.txn.charges } } }

abbrev pub state_of : Res (Unit {0}) → State
state_of (Gives u st) = st
state_of (Stops why st) = st

-- where a block comes to, whatever it comes to
abbrev pub left_at : Setting → List TypedStmt → List Answer → State
left_at setting block tape = state_of (block_does setting block (first_state tape))

-- no counter is above its limit
abbrev pub CountersStayWithin : Type 0
CountersStayWithin =
    (setting : Setting) (block : List TypedStmt) (tape : List Answer) (k : LimitKind) →
    counter k (left_at setting block tape).world.txn.charges ≤ limit_of k

-- nor is one in a reply
pub record Within (c : Counts) : Type 0 where
  pub queries : c.queries ≤ limit_of Queries
  pub rows : c.rows ≤ limit_of Rows
  pub dml : c.dml ≤ limit_of Dml
  pub saved : c.saved ≤ limit_of Saved
  pub steps : c.steps ≤ limit_of Steps

abbrev pub RepliesStayWithin : Type 0
RepliesStayWithin =
    (setting : Setting) (block : List TypedStmt) (tape : List Answer) (reply : Reply) (writes : Writes) →
    block_run setting block tape ≡ Ends reply writes → Within reply.counts

-- kinds that are charged one by one: a query, a statement that saves, a call
abbrev pub by_ones : LimitKind → Bool
by_ones Queries = true
by_ones Dml = true
by_ones Calls = true
by_ones _ = false

-- a block that halts is told by the number behind its limit; of what is charged one by one, the counter is at its limit there, so
-- that it was the first one too many
pub record Passed (k : LimitKind) (n : ℕ) (charges : List Entry) : Type 0 where
  pub named : n ≡ limit_of k + 1
  pub full : by_ones k ≡ true → counter k charges ≡ limit_of k

abbrev pub HaltsAreAtCharges : Type 0
HaltsAreAtCharges =
    (setting : Setting) (block : List TypedStmt) (tape : List Answer) (k : LimitKind) (n : ℕ) (st : State) →
    block_does setting block (first_state tape) ≡ Stops (Closes (Halts k n)) st → Passed k n st.world.txn.charges

-- a charge is made where it fits; where it doesn't, it ends the request by the number behind the limit, and nothing was charged
abbrev pub ChargesAreExact : Type 0
ChargesAreExact =
    (k : LimitKind) (n : ℕ) (st : State) →
    (counter k st.world.txn.charges + n ≤ limit_of k → charge k n st ≡ Gives tt (charged_state k n st))
    × (limit_of k < counter k st.world.txn.charges + n → charge k n st ≡ Stops (Closes (Halts k (limit_of k + 1))) st)

-- ---- nothing follows an end that nothing sees, as that of a limit: neither statements behind it, nor what catches, nor what
-- stands behind `finally`

abbrev pub EndsComeBeforeTheRest : Type 0
EndsComeBeforeTheRest =
    (setting : Setting) (block after : List TypedStmt) (start st : State) (why : Finish) →
    block_does setting block start ≡ Stops (Closes why) st →
    block_does setting (block ++ after) start ≡ Stops (Closes why) st

abbrev pub trying : List TypedStmt → List TypedCatch → Option (List TypedStmt) → TypedStmt
trying body clauses last = roll-TypedStmt (TypedStmt-F.Try body clauses last)

-- a `try` begins with its step
abbrev pub TriesSeeNoEnd : Type 0
TriesSeeNoEnd =
    (setting : Setting) (body after : List TypedStmt) (clauses : List TypedCatch) (last : Option (List TypedStmt)) (start begun st : State) (why : Finish) →
    charge Steps 1 start ≡ Gives tt begun →
    block_does setting body begun ≡ Stops (Closes why) st →
    block_does setting (trying body clauses last ∷ after) start ≡ Stops (Closes why) st

-- ---- what was there stays

-- the lines that a block said are those that it said first with any statements behind it
abbrev pub LinesStay : Type 0
LinesStay =
    (setting : Setting) (block after : List TypedStmt) (tape : List Answer) →
    (more : List (List ℕ)) × ((left_at setting (block ++ after) tape).world.debug ≡ (left_at setting block tape).world.debug ++ more)

-- a block that doesn't come to its end writes nothing
abbrev pub FailedBlocksWriteNothing : Type 0
FailedBlocksWriteNothing =
    (setting : Setting) (block : List TypedStmt) (tape : List Answer) (reply : Reply) (writes : Writes) →
    block_run setting block tape ≡ Ends reply writes → (reply.outcome ≡ Ok → ⊥) → writes ≡ no_writes
