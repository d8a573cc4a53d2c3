-- A move leaves the rows of a request paid for.
use Rattle.std.proofs.Common.{ℕ, zero, suc, ◌+◌, ◌≤◌, Bool, true, false, List, [], ◌∷◌, length, map, Option, Some, None, ◌∙◌, arith, get_or-set_same, get_or-set_other, length-set}
use Rattle.std.specs.Prelude.{not, leb, slice_get}
use Rattle.apex_num.specs.declared.kind.LimitKind.{LimitKind}
use Rattle.apex_num.specs.declared.kind.LimitKind.TheVariants.{Dml, Saved, Steps, Alloc}
use Rattle.limit_meter.specs.Charges.{limit_of, count_of, with_count}
use Rattle.platform_errors.specs.declared.record.RecordError.{RecordError}
use Rattle.apex_schema.specs.declared.schema.Object.{Object}
use Rattle.apex_requests.specs.declared.request.SaveRow.{SaveRow}
use Rattle.save_meaning.specs.Sites.{Site}
use Rattle.save_meaning.specs.Drafts.{written}
use Rattle.save_meaning.specs.Inserts.{is_double, first_again}
use Rattle.save_meaning.specs.declared.run.TxnState.{TxnState}
use Rattle.save_statements.specs.declared.pending.Act.{Act}
use Rattle.save_statements.specs.declared.pending.Act.TheVariants.{Inserting, Updating, Deleting}
use Rattle.save_statements.specs.declared.pending.Pending.{Pending}
use Rattle.save_statements.specs.declared.pending.Record.{Record}
use Rattle.save_statements.specs.declared.pending.Record.TheVariants.{Going, Wrong}
use Rattle.save_statements.specs.declared.firing.Trigger.{Trigger}
use Rattle.save_statements.specs.declared.firing.Entry.{Entry}
use Rattle.save_statements.specs.declared.statement.Placed.{Placed}
use Rattle.save_statements.specs.declared.statement.Told.{Told}
use Rattle.save_statements.specs.declared.statement.Chunk.{Chunk}
use Rattle.save_statements.specs.declared.run.Replayed.{Replayed}
use Rattle.save_statements.specs.declared.run.Replayed.TheVariants.{Came, Wants}
use Rattle.save_statements.specs.declared.run.Phase.{Phase}
use Rattle.save_statements.specs.declared.run.Phase.TheVariants as P
use Rattle.save_statements.specs.declared.run.Stage.{Stage}
use Rattle.save_statements.specs.declared.run.Stage.TheVariants as S
use Rattle.save_statements.specs.declared.run.SaveRun.{SaveRun}
use Rattle.save_statements.specs.Records.{going}
use Rattle.save_statements.specs.Inquiries.{replayed}
use Rattle.save_statements.specs.Loading.{load}
use Rattle.save_statements.specs.Checks.{refer, validate}
use Rattle.save_statements.specs.Phases.{row_units}
use Rattle.save_statements.specs.Statements.{unplaced, told, first_failed, failed_in}
use Rattle.save_statements.specs.Moves.{Move, Goes, charged_if, charged, marked, unmarked, taken_back, at, behind, begun, without_double, next, started, begin, replays, fire, put, is_written, settled, retried, settle, with_object, inside, entered, next_id, write_one, write, move_in}
use Rattle.save_measures.specs.Paid.{IsPaid}
use Rattle.save_measures.specs.Measure.{Triggers}
use Rattle.save_measures.specs.Laws.{Pays, MovesPay}

abbrev with_charge : LimitKind → ℕ → TxnState → TxnState
with_charge k n w = record w { meter = with_count w.meter k (count_of w.meter k + n) }

-- ---- charges leave it so

paid_dml : (n : ℕ) (w : TxnState) → IsPaid w → IsPaid (with_charge Dml n w)
paid_dml n w p = let len = p.eight in let m = p.minted in let e = get_or-set_other w.meter 2 6 (count_of w.meter Dml + n) 0 (λ x. cc) in record { eight = length-set w.meter _ _ ∙ len; minted = omega arith }

paid_saved : (n : ℕ) (w : TxnState) → IsPaid w → IsPaid (with_charge Saved n w)
paid_saved n w p = let len = p.eight in let m = p.minted in let e = get_or-set_other w.meter 3 6 (count_of w.meter Saved + n) 0 (λ x. cc) in record { eight = length-set w.meter _ _ ∙ len; minted = omega arith }

paid_steps : (n : ℕ) (w : TxnState) → IsPaid w → IsPaid (with_charge Steps n w)
paid_steps n w p = let len = p.eight in let m = p.minted in let e = get_or-set_other w.meter 5 6 (count_of w.meter Steps + n) 0 (λ x. cc) in record { eight = length-set w.meter _ _ ∙ len; minted = omega arith }

paid_alloc : (n : ℕ) (w : TxnState) → IsPaid w → IsPaid (with_charge Alloc n w)
paid_alloc n w p = let len = p.eight in let m = p.minted in let e = get_or-set_same w.meter 6 (count_of w.meter Alloc + n) 0 (omega arith) in record { eight = length-set w.meter _ _ ∙ len; minted = omega arith }

-- with a row more
paid_mint : (n : ℕ) (w : TxnState) → 64 ≤ n → IsPaid w → IsPaid (record (with_charge Alloc n w) { minted = w.minted + 1 })
paid_mint n w le p = let len = p.eight in let m = p.minted in let e = get_or-set_same w.meter 6 (count_of w.meter Alloc + n) 0 (omega arith) in record { eight = length-set w.meter _ _ ∙ len; minted = omega arith }

-- overlays are none of it
paid_marked : (b : Bool) (w : TxnState) → IsPaid w → IsPaid (marked b w)
paid_marked true w p = record { eight = p.eight; minted = p.minted }
paid_marked false w p = p

paid_unmarked : (b : Bool) (w : TxnState) → IsPaid w → IsPaid (unmarked b w)
paid_unmarked true w p = record { eight = p.eight; minted = p.minted }
paid_unmarked false w p = p

paid_back : (w : TxnState) → IsPaid w → IsPaid (taken_back w)
paid_back w p = record { eight = p.eight; minted = p.minted }

charge_if_pays : (b : Bool) (k : LimitKind) (n : ℕ) (w : TxnState) (go : TxnState → Move) → IsPaid w → Pays (go (with_charge k n w)) → Pays (charged_if b k n w go)
charge_if_pays true k n w go p h = h
charge_if_pays false k n w go p h = p

charge_pays : (k : LimitKind) (n : ℕ) (w : TxnState) (go : TxnState → Move) → IsPaid w → Pays (go (with_charge k n w)) → Pays (charged k n w go)
charge_pays k n w go p h = charge_if_pays (leb (count_of w.meter k + n) (limit_of k)) k n w go p h

-- ---- the moves

begun_pays : (o : Option Object) (rows : List SaveRow) (run : SaveRun) (w : TxnState) → IsPaid w → Pays (begun o rows run w)
begun_pays None rows run w p = p
begun_pays (Some o) rows run w p = paid_marked run.all w p

doubles_pay : (b : Bool) (id : Option (List ℕ)) (w : TxnState) (go : Move) → IsPaid w → Pays go → Pays (without_double b id w go)
doubles_pay true id w go p h = p
doubles_pay false (Some id) w go p h = p
doubles_pay false None w go p h = h

next_pays : (cs : List Chunk) (run : SaveRun) (w : TxnState) → IsPaid w → Pays (next cs run w)
next_pays [] run w p = paid_unmarked run.all w p
next_pays (c ∷ cs) run w p = p

started_pays : (run : SaveRun) (w : TxnState) → IsPaid w → Pays (started run w)
started_pays run w p =
    charge_pays Steps (length run.rows) w (λ v. Goes (at run (S.Load [])) (marked (not run.all) v)) p (paid_marked (not run.all) (with_charge Steps (length run.rows) w) (paid_steps (length run.rows) w p))

begin_pays : (all : Bool) (rows : List Placed) (run : SaveRun) (w : TxnState) → IsPaid w → Pays (begin all rows run w)
begin_pays false [] run w p = p
begin_pays false (r ∷ rows) run w p = started_pays run w p
begin_pays true [] run w p = started_pays run w p
begin_pays true (r ∷ rows) run w p = started_pays run w p

replay_pays : (r : Replayed) (then : List Record → Stage) (run : SaveRun) (w : TxnState) → IsPaid w → Pays (replays r then run w)
replay_pays (Came rs) then run w p = p
replay_pays (Wants q) then run w p = tt

fire_pays : (before : Bool) (ts : List Trigger) (es : List Entry) (run : SaveRun) (w : TxnState) → IsPaid w → Pays (fire before ts es run w)
fire_pays before [] es run w p = p
fire_pays before (t ∷ ts) es run w p = tt

settled_pays : (f : Option (ℕ × RecordError)) (ts : List Told) (run : SaveRun) (w : TxnState) → IsPaid w → Pays (settled f ts run w)
settled_pays (Some f) ts run w p = paid_back w p
settled_pays None ts run w p = p

retried_pays : (fs : List Told) (left : ℕ) (ts : List Told) (run : SaveRun) (w : TxnState) → IsPaid w → Pays (retried fs left ts run w)
retried_pays [] left ts run w p = paid_unmarked true w p
retried_pays (f ∷ fs) zero ts run w p = paid_back w p
retried_pays (f ∷ fs) (suc left) ts run w p = paid_back w p

settle_pays : (all : Bool) (ts : List Told) (run : SaveRun) (w : TxnState) → IsPaid w → Pays (settle all ts run w)
settle_pays true ts run w p = settled_pays (first_failed ts) ts run w p
settle_pays false ts run w p = retried_pays (failed_in ts) run.left ts run w p

module _ (site : Site) (triggers : Triggers) where
  object_pays : (o : Option Object) (go : Object → Move) (run : SaveRun) (w : TxnState) → IsPaid w → ((x : Object) → Pays (go x)) → Pays (with_object site triggers o go run w)
  object_pays None go run w p h = p
  object_pays (Some o) go run w p h = h o

  entered_pays : (ps : List Pending) (phase : Phase) (rs : List Record) (run : SaveRun) (w : TxnState) → IsPaid w → Pays (entered site triggers ps phase rs run w)
  entered_pays [] phase rs run w p = p
  entered_pays (x ∷ ps) phase rs run w p = charge_pays Steps (length (x ∷ ps)) w (λ v. Goes (at run (inside site triggers phase rs run)) v) p (paid_steps (length (x ∷ ps)) w p)

  write_one_pays : (act : Act) (x : Pending) (before rs : List Record) (o : Object) (run : SaveRun) (w : TxnState) → IsPaid w → Pays (write_one site triggers act x before rs o run w)
  write_one_pays Inserting x before rs o run w p =
      let m = paid_mint (row_units o) w (omega arith) p in
      charge_pays Alloc (row_units o) w
      (λ v. is_written (record x { row = written (next_id site triggers o v) x.row }) before rs run (put (next_id site triggers o v) x.row (record v { minted = v.minted + 1 }))) p
      (record { eight = m.eight; minted = m.minted })
  write_one_pays Updating x before rs o run w p =
      let m = paid_alloc (row_units o) w p in
      charge_pays Alloc (row_units o) w (λ v. is_written (record x { row = written x.row.id x.row }) before rs run (put x.row.id x.row v)) p (record { eight = m.eight; minted = m.minted })
  write_one_pays Deleting x before rs o run w p = record { eight = p.eight; minted = p.minted }

  write_pays : (before rs : List Record) (o : Object) (run : SaveRun) (w : TxnState) → IsPaid w → Pays (write site triggers before rs o run w)
  write_pays before [] o run w p = p
  write_pays before (Wrong e ∷ rs) o run w p = p
  write_pays before (Going x ∷ rs) o run w p = write_one_pays run.act x before rs o run w p

  pays_in : (st : Stage) (run : SaveRun) (w : TxnState) → IsPaid w → Pays (move_in site triggers st run w)
  pays_in (S.Charge rows) run w p = charge_pays Dml 1 w (λ v. Goes (at run (S.Count rows)) v) p (paid_dml 1 w p)
  pays_in (S.Count rows) run w p =
      let q = paid_saved (length rows) w p in
      charge_pays Saved (length rows) w
      (λ v. without_double (is_double (map (λ (r : SaveRow). r.key) rows)) (first_again [] (map (λ (r : SaveRow). r.id) rows)) v (begun (slice_get site.schema.objects run.object) rows run v)) p
      (doubles_pay (is_double (map (λ (r : SaveRow). r.key) rows)) (first_again [] (map (λ (r : SaveRow). r.id) rows)) (with_charge Saved (length rows) w) (begun (slice_get site.schema.objects run.object) rows run (with_charge Saved (length rows) w)) q
      (begun_pays (slice_get site.schema.objects run.object) rows run (with_charge Saved (length rows) w) q))
  pays_in S.Next run w p = next_pays run.chunks run w p
  pays_in S.Begin run w p = begin_pays run.all run.rows run w p
  pays_in (S.Load answers) run w p =
      object_pays (slice_get site.schema.objects run.object) _ run w p (λ o. replay_pays (replayed (load site w.overlay.now run.act run.by run.object o (unplaced run.rows)) answers) (S.Enter P.Refer) run w p)
  pays_in (S.Enter phase rs) run w p = entered_pays (going rs) phase rs run w p
  pays_in (S.Refer rs answers) run w p =
      object_pays (slice_get site.schema.objects run.object) _ run w p (λ o. replay_pays (replayed (refer site w.overlay.now run.act o rs) answers) (behind P.Refer) run w p)
  pays_in (S.Fire before ts es) run w p = fire_pays before ts es run w p
  pays_in (S.Validate rs answers) run w p =
      object_pays (slice_get site.schema.objects run.object) _ run w p (λ o. replay_pays (replayed (validate site w.overlay.now run.act run.object o rs) answers) (behind P.Validate) run w p)
  pays_in (S.Write before rs) run w p = object_pays (slice_get site.schema.objects run.object) _ run w p (λ o. write_pays before rs o run w p)
  pays_in (S.Settle rs) run w p = settle_pays run.all (told run.rows rs) run w p

pub moves_pay : MovesPay
moves_pay site triggers run w p = pays_in site triggers run.stage run w p
