-- A statement that saves, move by move (docs/platform.md, "Saves"). A phase that asks is made again on all answers that it had so
-- far, each time one more is there.
use Rattle.std.specs.Prelude.{ℕ, zero, suc, ◌+◌, ◌-◌, pos, leb, Bool, true, false, not, List, [], ◌∷◌, ◌++◌, length, map, slice_get, slice_set, Option, None, Some}
use Rattle.apex_num.specs.declared.kind.LimitKind.{LimitKind}
use Rattle.apex_num.specs.declared.kind.LimitKind.TheVariants.{Dml, Saved, Steps, Alloc}
use Rattle.limit_meter.specs.Charges.{limit_of, count_of, with_count}
use Rattle.platform_errors.specs.declared.record.RecordError.{RecordError}
use Rattle.platform_errors.specs.declared.thrown.Thrown.{Thrown}
use Rattle.platform_errors.specs.declared.thrown.Thrown.TheVariants as Throw
use Rattle.apex_schema.specs.declared.schema.Object.{Object}
use Rattle.apex_rows.specs.declared.query.Question.{Question}
use Rattle.apex_rows.specs.declared.query.Answer.{Answer}
use Rattle.apex_rows.specs.declared.row.Row.{Row}
use Rattle.apex_requests.specs.declared.request.Context.{Context}
use Rattle.apex_requests.specs.declared.request.Op.{Op}
use Rattle.apex_requests.specs.declared.request.SaveRow.{SaveRow}
use Rattle.record_ids.specs.Ids.{minted_id}
use Rattle.row_meaning.specs.Overlays.{Now}
use Rattle.txn_overlay.specs.Changes.{changed}
use Rattle.txn_overlay.specs.Journals.{saved_again, kept, undone}
use Rattle.save_meaning.specs.Sites.{Site}
use Rattle.save_meaning.specs.Drafts.{written}
use Rattle.save_meaning.specs.Inserts.{is_double, first_again}
use Rattle.save_meaning.specs.declared.run.TxnState.{TxnState}
use Rattle.save_statements.specs.declared.pending.Act.{Act}
use Rattle.save_statements.specs.declared.pending.Act.TheVariants.{Inserting, Updating, Deleting}
use Rattle.save_statements.specs.declared.pending.Manner.{Manner}
use Rattle.save_statements.specs.declared.pending.Pending.{Pending}
use Rattle.save_statements.specs.declared.pending.Record.{Record}
use Rattle.save_statements.specs.declared.pending.Record.TheVariants.{Going, Wrong}
use Rattle.save_statements.specs.declared.firing.Trigger.{Trigger}
use Rattle.save_statements.specs.declared.firing.Fired.{Fired}
use Rattle.save_statements.specs.declared.firing.Entry.{Entry}
use Rattle.save_statements.specs.declared.statement.Placed.{Placed}
use Rattle.save_statements.specs.declared.statement.RecordOutcome.{RecordOutcome}
use Rattle.save_statements.specs.declared.statement.Told.{Told}
use Rattle.save_statements.specs.declared.statement.Chunk.{Chunk}
use Rattle.save_statements.specs.declared.run.Replayed.{Replayed}
use Rattle.save_statements.specs.declared.run.Replayed.TheVariants.{Came, Wants}
use Rattle.save_statements.specs.declared.run.Phase.{Phase}
use Rattle.save_statements.specs.declared.run.Phase.TheVariants as P
use Rattle.save_statements.specs.declared.run.Stage.{Stage}
use Rattle.save_statements.specs.declared.run.Stage.TheVariants as S
use Rattle.save_statements.specs.declared.run.SaveRun.{SaveRun}
use Rattle.save_statements.specs.Records.{going}
use Rattle.save_statements.specs.Inquiries.{replayed}
use Rattle.save_statements.specs.Loading.{load}
use Rattle.save_statements.specs.Checks.{refer, validate}
use Rattle.save_statements.specs.Firings.{entries, context, fired, back}
use Rattle.save_statements.specs.Phases.{row_units, drop_all}
use Rattle.save_statements.specs.Statements.{placed, unplaced, chunks, told, first_failed, failed_in, left_over, given_up, most_attempts}

-- a move goes on; asks a question, and its answer has to be given before the next one; fires a trigger of a number, and what the
-- firing comes to has to be given; ends the statement with what came of its records; throws; or passes a limit, to this number
pub data Move : Type 0 where
  Goes : SaveRun → TxnState → Move
  Asks : Question → Move
  Fires : ℕ → Context → Move
  Ends : List RecordOutcome → TxnState → Move
  Throws : Thrown → TxnState → Move
  Halts : LimitKind → ℕ → TxnState → Move

-- ---- charges, in the counters of a meter

abbrev pub charged_if : Bool → LimitKind → ℕ → TxnState → (TxnState → Move) → Move
charged_if true k n w go = go (record w { meter = with_count w.meter k (count_of w.meter k + n) })
charged_if false k n w go = Halts k (limit_of k + 1) w

abbrev pub charged : LimitKind → ℕ → TxnState → (TxnState → Move) → Move
charged k n w go = charged_if (leb (count_of w.meter k + n) (limit_of k)) k n w go

-- ---- overlays to go back to: one of a statement of all or none, one of each attempt in part

abbrev pub marked : Bool → TxnState → TxnState
marked true w = record w { overlay = saved_again w.overlay }
marked false w = w

-- it ends, and what it changed stays
abbrev pub unmarked : Bool → TxnState → TxnState
unmarked true w = record w { overlay = kept w.overlay }
unmarked false w = w

-- it ends, and what it changed is undone
abbrev pub taken_back : TxnState → TxnState
taken_back w = record w { overlay = undone w.overlay }

-- ---- what came of the records: a place for each record of the statement's list

abbrev pub none_yet : List SaveRow → List (Option RecordOutcome)
none_yet rows = map (λ (r : SaveRow). None) rows

abbrev pub noted : List Told → List (Option RecordOutcome) → List (Option RecordOutcome)
noted [] results = results
noted (t ∷ ts) results = noted ts (slice_set results t.place (Some t.outcome))

abbrev pub known : List (Option RecordOutcome) → List RecordOutcome
known [] = []
known (None ∷ results) = known results
known (Some o ∷ results) = o ∷ known results

-- ---- what comes behind what

abbrev pub at : SaveRun → Stage → SaveRun
at run stage = record run { stage = stage }

abbrev pub behind : Phase → List Record → Stage
behind P.Refer rs = S.Enter P.Before rs
behind P.Before rs = S.Enter P.Validate rs
behind P.Validate rs = S.Enter P.Write rs
behind P.Write rs = S.Enter P.After rs
behind P.After rs = S.Enter P.RollUp rs
behind P.RollUp rs = S.Settle rs

abbrev pub phase_of : Bool → Phase
phase_of true = P.Before
phase_of false = P.After

-- ---- how a statement and its chunks begin

-- there is no record of an object that isn't there
abbrev pub begun : Option Object → List SaveRow → SaveRun → TxnState → Move
begun None rows run w = Ends [] w
begun (Some o) rows run w = Goes (record run { chunks = chunks run.op (placed 0 rows); results = none_yet rows; stage = S.Next }) (marked run.all w)

abbrev pub without_double : Bool → Option (List ℕ) → TxnState → Move → Move
without_double true again w go = Throws Throw.DuplicateRecord w
without_double false (Some id) w go = Throws (Throw.DuplicateId id) w
without_double false None w go = go

abbrev pub next : List Chunk → SaveRun → TxnState → Move
next [] run w = Ends (known run.results) (unmarked run.all w)
next (c ∷ cs) run w = Goes (record run { chunks = cs; act = c.act; rows = c.rows; left = most_attempts - 1; stage = S.Begin }) w

-- the records of an attempt are charged a step each
abbrev pub started : SaveRun → TxnState → Move
started run w = charged Steps (length run.rows) w (λ v. Goes (at run (S.Load [])) (marked (not run.all) v))

-- in part, there is no attempt at no records
abbrev pub begin : Bool → List Placed → SaveRun → TxnState → Move
begin false [] run w = Goes (at run S.Next) w
begin all rows run w = started run w

-- ---- the phases

-- the records of a phase came, or it asks
abbrev pub replays : Replayed → (List Record → Stage) → SaveRun → TxnState → Move
replays (Came rs) then run w = Goes (at run (then rs)) w
replays (Wants q) then run w = Asks q

-- the first of some triggers fires
abbrev pub fire : Bool → List Trigger → List Entry → SaveRun → TxnState → Move
fire before [] es run w = Goes (at run (behind (phase_of before) (back es))) w
fire before (t ∷ ts) es run w = Fires t.number (context run.act before es)

-- with a row in the overlay
abbrev pub put : List ℕ → Row → TxnState → TxnState
put id row w = record w { overlay = record (w.overlay) { now = changed id (Now (written id row)) w.overlay.now } }

-- without the rows that go
abbrev pub without : List (List ℕ) → TxnState → TxnState
without ids w = record w { overlay = record (w.overlay) { now = drop_all ids w.overlay.now } }

-- the first record is written
abbrev pub is_written : Pending → List Record → List Record → SaveRun → TxnState → Move
is_written p before rs run w = Goes (at run (S.Write (before ++ Going p ∷ []) rs)) w

-- ---- how an attempt ends

-- all or none: a record that failed ends the statement
abbrev pub settled : Option (ℕ × RecordError) → List Told → SaveRun → TxnState → Move
settled (Some f) ts run w = Throws (Throw.Dml run.op (pos f.0) f.1) (taken_back w)
settled None ts run w = Goes (record run { results = noted ts run.results; stage = S.Next }) w

-- in part: what failed is set aside, and the others are tried again where an attempt is left, or given up
abbrev pub retried : List Told → ℕ → List Told → SaveRun → TxnState → Move
retried [] left ts run w = Goes (record run { results = noted ts run.results; stage = S.Next }) (unmarked true w)
retried (f ∷ fs) zero ts run w = Goes (record run { results = noted (given_up ts) run.results; stage = S.Next }) (taken_back w)
retried (f ∷ fs) (suc left) ts run w =
    Goes (record run { rows = left_over run.rows ts; left = left; results = noted (f ∷ fs) run.results; stage = S.Begin }) (taken_back w)

abbrev pub settle : Bool → List Told → SaveRun → TxnState → Move
settle true ts run w = settled (first_failed ts) ts run w
settle false ts run w = retried (failed_in ts) run.left ts run w

-- ---- where the request runs, and the triggers of an object for an operation, before or after

module _ (site : Site) (triggers : ℕ → Act → Bool → List Trigger) where
  -- there is no record of an object that isn't there
  abbrev pub with_object : Option Object → (Object → Move) → SaveRun → TxnState → Move
  with_object None go run w = Ends (known run.results) w
  with_object (Some o) go run w = go o

  abbrev pub of_object : (Object → Move) → SaveRun → TxnState → Move
  of_object go run w = with_object (slice_get site.schema.objects run.object) go run w

  -- what is in a phase
  abbrev pub inside : Phase → List Record → SaveRun → Stage
  inside P.Refer rs run = S.Refer rs []
  inside P.Before rs run = S.Fire true (triggers run.object run.act true) (entries rs)
  inside P.Validate rs run = S.Validate rs []
  inside P.Write rs run = S.Write [] rs
  inside P.After rs run = S.Fire false (triggers run.object run.act false) (entries rs)
  inside P.RollUp rs run = behind P.RollUp rs

  -- no record enters a phase: it is passed over; else a step is charged for each that does
  abbrev pub entered : List Pending → Phase → List Record → SaveRun → TxnState → Move
  entered [] phase rs run w = Goes (at run (behind phase rs)) w
  entered (p ∷ ps) phase rs run w = charged Steps (length (p ∷ ps)) w (λ v. Goes (at run (inside phase rs run)) v)

  -- ---- writing: a row that is written is charged, and has the next Id where it is new; a row that goes takes with it all that goes

  abbrev pub next_id : Object → TxnState → List ℕ
  next_id o w = minted_id o.prefix site.ticket.session site.ticket.index (w.minted + 1)

  abbrev pub write_one : Act → Pending → List Record → List Record → Object → SaveRun → TxnState → Move
  write_one Inserting p before rs o run w =
      charged Alloc (row_units o) w (λ v. is_written (record p { row = written (next_id o v) p.row }) before rs run (put (next_id o v) p.row (record v { minted = v.minted + 1 })))
  write_one Updating p before rs o run w =
      charged Alloc (row_units o) w (λ v. is_written (record p { row = written p.row.id p.row }) before rs run (put p.row.id p.row v))
  write_one Deleting p before rs o run w = is_written p before rs run (without p.under w)

  abbrev pub write : List Record → List Record → Object → SaveRun → TxnState → Move
  write before [] o run w = Goes (at run (behind P.Write before)) w
  write before (Wrong e ∷ rs) o run w = Goes (at run (S.Write (before ++ Wrong e ∷ []) rs)) w
  write before (Going p ∷ rs) o run w = write_one run.act p before rs o run w

  -- ---- the moves

  abbrev pub move_in : Stage → SaveRun → TxnState → Move
  move_in (S.Charge rows) run w = charged Dml 1 w (λ v. Goes (at run (S.Count rows)) v)
  move_in (S.Count rows) run w =
      charged Saved (length rows) w (λ v.
      without_double (is_double (map (λ (r : SaveRow). r.key) rows)) (first_again [] (map (λ (r : SaveRow). r.id) rows)) v (begun (slice_get site.schema.objects run.object) rows run v))
  move_in S.Next run w = next run.chunks run w
  move_in S.Begin run w = begin run.all run.rows run w
  move_in (S.Load answers) run w =
      of_object (λ o. replays (replayed (load site w.overlay.now run.act run.by run.object o (unplaced run.rows)) answers) (S.Enter P.Refer) run w) run w
  move_in (S.Enter phase rs) run w = entered (going rs) phase rs run w
  move_in (S.Refer rs answers) run w = of_object (λ o. replays (replayed (refer site w.overlay.now run.act o rs) answers) (behind P.Refer) run w) run w
  move_in (S.Fire before ts es) run w = fire before ts es run w
  move_in (S.Validate rs answers) run w =
      of_object (λ o. replays (replayed (validate site w.overlay.now run.act run.object o rs) answers) (behind P.Validate) run w) run w
  move_in (S.Write before rs) run w = of_object (λ o. write before rs o run w) run w
  move_in (S.Settle rs) run w = settle run.all (told run.rows rs) run w

  -- the next move of a statement
  abbrev pub move : SaveRun → TxnState → Move
  move run w = move_in run.stage run w

-- ---- answers, and firings that are over

abbrev pub given_in : Stage → Answer → Stage
given_in (S.Load answers) a = S.Load (answers ++ a ∷ [])
given_in (S.Refer rs answers) a = S.Refer rs (answers ++ a ∷ [])
given_in (S.Validate rs answers) a = S.Validate rs (answers ++ a ∷ [])
given_in stage a = stage

-- the answer to the question that a move asked
abbrev pub given : SaveRun → Answer → SaveRun
given run a = at run (given_in run.stage a)

abbrev pub fired_in : Stage → Fired → Stage
fired_in (S.Fire before (t ∷ ts) es) f = S.Fire before ts (fired t f es)
fired_in stage f = stage

-- what the firing came to that a move asked for
abbrev pub came_back : SaveRun → Fired → SaveRun
came_back run f = at run (fired_in run.stage f)

-- the save of these records of an object
abbrev pub first_run : Op → Manner → ℕ → Bool → List SaveRow → SaveRun
first_run op by object all rows = record {
  op = op;
  by = by;
  object = object;
  all = all;
  chunks = [];
  act = Inserting;
  rows = [];
  left = 0;
  results = [];
  stage = S.Charge rows;
}
