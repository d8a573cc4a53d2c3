-- A query, move by move (docs/platform.md, "Queries"). What asks is made again on all answers that it had so far, each time one
-- more is there.
use Rattle.std.specs.Prelude.{ℕ, ◌+◌, leb, Bool, true, false, List, [], ◌∷◌, ◌++◌, length}
use Rattle.apex_num.specs.declared.kind.LimitKind.{LimitKind}
use Rattle.apex_num.specs.declared.kind.LimitKind.TheVariants.{Queries, Rows, Alloc}
use Rattle.limit_meter.specs.Charges.{limit_of, count_of, with_count}
use Rattle.platform_errors.specs.declared.thrown.Thrown.{Thrown}
use Rattle.platform_errors.specs.declared.thrown.Thrown.TheVariants.{InvalidLimit}
use Rattle.apex_schema.specs.declared.schema.Mode.{Mode}
use Rattle.apex_rows.specs.declared.query.Answer.{Answer}
use Rattle.apex_rows.specs.declared.query.Bind.{Bind}
use Rattle.apex_rows.specs.declared.query.Query.{Query}
use Rattle.apex_rows.specs.declared.query.Query.TheViews.{out-Query}
use Rattle.apex_rows.specs.declared.query.Question.{Question}
use Rattle.apex_rows.specs.declared.row.Found.{Found}
use Rattle.apex_rows.specs.declared.row.Row.{Row}
use Rattle.save_meaning.specs.Sites.{Site}
use Rattle.save_meaning.specs.declared.run.TxnState.{TxnState}
use Rattle.store_inquiries.specs.Inquiries.{replayed}
use Rattle.query_meaning.specs.Queries.{Answered, all_numbers, answer_of, finding, holding, rows_in, units_of}
use Rattle.query_moves.specs.declared.run.QueryRun.{QueryRun}
use Rattle.query_moves.specs.declared.run.QueryStage.{QueryStage}
use Rattle.query_moves.specs.declared.run.QueryStage.TheVariants as S

-- a move goes on; asks a question, and its answer has to be given before the next one; ends the query with what it answers; throws;
-- or passes a limit, to this number
pub data Move : Type 0 where
  Goes : QueryRun → TxnState → Move
  Asks : Question → Move
  Ends : Answered → TxnState → Move
  Throws : Thrown → TxnState → Move
  Halts : LimitKind → ℕ → TxnState → Move

-- ---- charges, in the counters of a meter

abbrev pub charged_if : Bool → LimitKind → ℕ → TxnState → (TxnState → Move) → Move
charged_if true k n w go = go (record w { meter = with_count w.meter k (count_of w.meter k + n) })
charged_if false k n w go = Halts k (limit_of k + 1) w

abbrev pub charged : LimitKind → ℕ → TxnState → (TxnState → Move) → Move
charged k n w go = charged_if (leb (count_of w.meter k + n) (limit_of k)) k n w go

abbrev pub at : QueryRun → QueryStage → QueryRun
at run stage = record run { stage = stage }

-- ---- the moves

-- a LIMIT or OFFSET that is no number throws before anything is charged
abbrev pub begun : Bool → QueryRun → TxnState → Move
begun false run w = Throws InvalidLimit w
begun true run w = charged Queries 1 w (λ v. Goes (at run (S.Find [])) v)

module _ (site : Site) where
  -- rows with those under them are charged, and their units; COUNT() costs a row and no units
  abbrev pub charged_rows : Bool → List Row → TxnState → (TxnState → Move) → Move
  charged_rows true rows w go = charged Rows 1 w go
  charged_rows false rows w go = charged Rows (length rows) w (λ v. charged Alloc (units_of site.schema rows) v go)

  -- the rows are found
  abbrev pub came : QueryRun → TxnState → List Found → Move
  came run w found = charged_rows (out-Query run.query).counted (rows_in found) w (λ v. Goes (at run (S.Hold found [])) v)

  abbrev pub held : QueryRun → TxnState → List Found → Unit {0} → Move
  held run w found u = Ends (answer_of (out-Query run.query).counted found) w

  abbrev pub move_in : QueryStage → QueryRun → TxnState → Move
  move_in S.Begin run w = begun (all_numbers run.binds run.query) run w
  move_in (S.Find answers) run w = replayed (came run w) Asks (finding site w.overlay.now run.mode run.binds run.query) answers
  move_in (S.Hold found answers) run w = replayed (held run w found) Asks (holding site.ticket (out-Query run.query).locked found) answers

  -- the next move of a query
  abbrev pub move : QueryRun → TxnState → Move
  move run w = move_in run.stage run w

-- ---- answers

abbrev pub given_in : QueryStage → Answer → QueryStage
given_in S.Begin a = S.Begin
given_in (S.Find answers) a = S.Find (answers ++ a ∷ [])
given_in (S.Hold found answers) a = S.Hold found (answers ++ a ∷ [])

-- the answer to the question that a move asked
abbrev pub given : QueryRun → Answer → QueryRun
given run a = at run (given_in run.stage a)

-- a query whose binds have these values, in a sharing mode
abbrev pub first_run : Query → List Bind → Mode → QueryRun
first_run q binds mode = record { query = q; binds = binds; mode = mode; stage = S.Begin }
