-- Each move that goes on lowers the number of moves that may come.
use Rattle.std.proofs.Common.{◌≡◌, ℕ, zero, suc, ◌+◌, ◌*◌, ◌<◌, ◌≤◌, Bool, true, false, List, [], ◌∷◌, length, map, Option, Some, None, refl, subst, arith}
use Rattle.std.specs.Prelude.{not, leb, slice_get}
use Rattle.apex_num.specs.declared.kind.LimitKind.{LimitKind}
use Rattle.apex_num.specs.declared.kind.LimitKind.TheVariants.{Dml, Saved, Steps, Alloc}
use Rattle.limit_meter.specs.Charges.{limit_of, count_of, with_count}
use Rattle.platform_errors.specs.declared.record.RecordError.{RecordError}
use Rattle.apex_schema.specs.declared.schema.Object.{Object}
use Rattle.apex_requests.specs.declared.request.SaveRow.{SaveRow}
use Rattle.apex_rows.specs.declared.query.Answer.{Answer}
use Rattle.save_meaning.specs.Sites.{Site}
use Rattle.save_meaning.specs.Drafts.{written}
use Rattle.save_meaning.specs.Inserts.{is_double, first_again}
use Rattle.save_meaning.specs.declared.run.TxnState.{TxnState}
use Rattle.save_statements.specs.declared.pending.Act.{Act}
use Rattle.save_statements.specs.declared.pending.Act.TheVariants.{Inserting, Updating, Deleting}
use Rattle.save_statements.specs.declared.pending.Pending.{Pending}
use Rattle.save_statements.specs.declared.pending.Record.{Record}
use Rattle.save_statements.specs.declared.pending.Record.TheVariants.{Going, Wrong}
use Rattle.save_statements.specs.declared.firing.Trigger.{Trigger}
use Rattle.save_statements.specs.declared.firing.Fired.{Fired}
use Rattle.save_statements.specs.declared.firing.Entry.{Entry}
use Rattle.save_statements.specs.declared.statement.Placed.{Placed}
use Rattle.save_statements.specs.declared.statement.Told.{Told}
use Rattle.save_statements.specs.declared.statement.Chunk.{Chunk}
use Rattle.save_statements.specs.declared.run.Replayed.{Replayed}
use Rattle.save_statements.specs.declared.run.Replayed.TheVariants.{Came, Wants}
use Rattle.save_statements.specs.declared.run.Phase.{Phase}
use Rattle.save_statements.specs.declared.run.Phase.TheVariants as P
use Rattle.save_statements.specs.declared.run.Stage.{Stage}
use Rattle.save_statements.specs.declared.run.Stage.TheVariants as S
use Rattle.save_statements.specs.declared.run.SaveRun.{SaveRun}
use Rattle.save_statements.specs.Records.{going}
use Rattle.save_statements.specs.Inquiries.{replayed}
use Rattle.save_statements.specs.Loading.{load}
use Rattle.save_statements.specs.Checks.{refer, validate}
use Rattle.save_statements.specs.Phases.{row_units}
use Rattle.save_statements.specs.Statements.{unplaced, told, first_failed, failed_in, left_over}
use Rattle.save_statements.specs.Moves as M
use Rattle.save_statements.specs.Moves.{Move, Goes, Asks, Fires, Ends, Throws, Halts, charged_if, charged, marked, put, is_written, next_id, at, begun, without_double, next, started, begin, replays, fire, settled, retried, settle, with_object, inside, entered, write_one, write, move_in, move, given_in, fired_in}
use Rattle.save_measures.specs.Measure.{Triggers, before, behind, attempt, all_chunks, weight}
use Rattle.save_measures.specs.Laws.{Lowers, MovesEnd}
use Rattle.save_measures.proofs.Keeping.{length_entries, length_back, length_fired, left_over_few, came_many, finds_load, finds_refer, finds_validate, length_unplaced}

-- ---- numbers

plus_less : (i j t : ℕ) → i < j → i + t < j + t
plus_less i j t h = omega arith

to_next : (k t c : ℕ) → 2 ≤ k → 1 + c + 0 < k + (t + c)
to_next k t c h = omega arith

times_few : (k a b : ℕ) → a ≤ b → k * a ≤ k * b
times_few zero a b h = let e : zero * a ≡ 0 = search (arith) in omega arith
times_few (suc k) a b h =
    let r = times_few k a b h in let e : suc k * a ≡ a + k * a = search (arith) in let f : suc k * b ≡ b + k * b = search (arith) in omega arith

abbrev with_charge : LimitKind → ℕ → TxnState → TxnState
with_charge k n w = record w { meter = with_count w.meter k (count_of w.meter k + n) }

module _ (site : Site) (triggers : Triggers) where
  abbrev of : Stage → SaveRun → ℕ
  of st run = weight triggers (at run st)

  -- what is said of a move from a stage
  abbrev LowersFrom : Stage → SaveRun → Move → Type 0
  LowersFrom st run (Goes r w) = weight triggers r < of st run
  LowersFrom st run (Asks q) = (a : Answer) → of (given_in st a) run ≡ of st run
  LowersFrom st run (Fires n c) = (f : Fired) → of (fired_in st f) run < of st run
  LowersFrom st run _ = Unit {0}

  charge_if_lowers : (b : Bool) (k : LimitKind) (n : ℕ) (st : Stage) (run : SaveRun) (w : TxnState) (go : TxnState → Move) → ((v : TxnState) → LowersFrom st run (go v)) → LowersFrom st run (charged_if b k n w go)
  charge_if_lowers true k n st run w go h = h (with_charge k n w)
  charge_if_lowers false k n st run w go h = tt

  charge_lowers : (k : LimitKind) (n : ℕ) (st : Stage) (run : SaveRun) (w : TxnState) (go : TxnState → Move) → ((v : TxnState) → LowersFrom st run (go v)) → LowersFrom st run (charged k n w go)
  charge_lowers k n st run w go h = charge_if_lowers (leb (count_of w.meter k + n) (limit_of k)) k n st run w go h

  doubles_lower : (b : Bool) (id : Option (List ℕ)) (st : Stage) (run : SaveRun) (w : TxnState) (go : Move) → LowersFrom st run go → LowersFrom st run (without_double b id w go)
  doubles_lower true id st run w go h = tt
  doubles_lower false (Some id) st run w go h = tt
  doubles_lower false None st run w go h = h

  begun_lowers : (o : Option Object) (rows : List SaveRow) (run : SaveRun) (w : TxnState) → LowersFrom (S.Count rows) run (begun o rows run w)
  begun_lowers None rows run w = tt
  begun_lowers (Some o) rows run w = omega arith

  next_lowers : (cs : List Chunk) (run : SaveRun) (w : TxnState) → cs ≡ run.chunks → LowersFrom S.Next run (next cs run w)
  next_lowers [] run w e = tt
  next_lowers (c ∷ cs) run w e =
      subst (λ (x : List Chunk). weight triggers (record run { chunks = cs; act = c.act; rows = c.rows; left = 2; stage = S.Begin }) < 1 + all_chunks triggers run.object x + 0) e
      (fits (before triggers run.object c.act) (behind triggers run.object c.act) (length c.rows) (all_chunks triggers run.object cs))
    where
      fits : (b a n r : ℕ) → 15 + b + a + n + (2 * (16 + b + a + n) + r) < 1 + (3 * (16 + b + a + n) + r) + 0
      fits b a n r = omega arith

  started_lowers : (run : SaveRun) (w : TxnState) → LowersFrom S.Begin run (started run w)
  started_lowers run w =
      charge_lowers Steps (length run.rows) S.Begin run w (λ v. Goes (at run (S.Load [])) (marked (not run.all) v)) (λ v. plus_less _ _ (run.left * attempt triggers run.object run.act (length run.rows) + all_chunks triggers run.object run.chunks) (omega arith))

  begin_lowers : (all : Bool) (rows : List Placed) (run : SaveRun) (w : TxnState) → LowersFrom S.Begin run (begin all rows run w)
  begin_lowers false [] run w = to_next (15 + before triggers run.object run.act + behind triggers run.object run.act + length run.rows) (run.left * attempt triggers run.object run.act (length run.rows)) (all_chunks triggers run.object run.chunks) (omega arith)
  begin_lowers false (r ∷ rows) run w = started_lowers run w
  begin_lowers true [] run w = started_lowers run w
  begin_lowers true (r ∷ rows) run w = started_lowers run w

  -- what is behind an attempt
  abbrev rest : SaveRun → ℕ
  rest run = run.left * attempt triggers run.object run.act (length run.rows) + all_chunks triggers run.object run.chunks

  -- a phase that asks
  replay_lowers : (r : Replayed) (st : Stage) (then : List Record → Stage) (run : SaveRun) (w : TxnState) → ((rs : List Record) → r ≡ Came rs → of (then rs) run < of st run) →
      ((a : Answer) → of (given_in st a) run ≡ of st run) → LowersFrom st run (replays r then run w)
  replay_lowers (Came rs) st then run w h same = h rs refl
  replay_lowers (Wants q) st then run w h same = same

  fire_lowers : (side : Bool) (ts : List Trigger) (es : List Entry) (run : SaveRun) (w : TxnState) → LowersFrom (S.Fire side ts es) run (fire side ts es run w)
  fire_lowers true [] es run w = let l = length_back es in plus_less _ _ (rest run) (omega arith)
  fire_lowers false [] es run w = plus_less _ _ (rest run) (omega arith)
  fire_lowers true (t ∷ ts) es run w = λ f. let l = length_fired t f es in plus_less _ _ (rest run) (omega arith)
  fire_lowers false (t ∷ ts) es run w = λ f. plus_less _ _ (rest run) (omega arith)

  settled_lowers : (f : Option (ℕ × RecordError)) (rs : List Record) (ts : List Told) (run : SaveRun) (w : TxnState) → LowersFrom (S.Settle rs) run (settled f ts run w)
  settled_lowers (Some f) rs ts run w = tt
  settled_lowers None rs ts run w = to_next 2 (run.left * attempt triggers run.object run.act (length run.rows)) (all_chunks triggers run.object run.chunks) (omega arith)

  retried_lowers : (fs : List Told) (left : ℕ) (rs : List Record) (ts : List Told) (run : SaveRun) (w : TxnState) → left ≡ run.left → LowersFrom (S.Settle rs) run (retried fs left ts run w)
  retried_lowers [] left rs ts run w e = to_next 2 (run.left * attempt triggers run.object run.act (length run.rows)) (all_chunks triggers run.object run.chunks) (omega arith)
  retried_lowers (f ∷ fs) zero rs ts run w e = to_next 2 (run.left * attempt triggers run.object run.act (length run.rows)) (all_chunks triggers run.object run.chunks) (omega arith)
  retried_lowers (f ∷ fs) (suc left) rs ts run w e =
      subst (λ n. weight triggers (record run { rows = left_over run.rows ts; left = left; results = M.noted (f ∷ fs) run.results; stage = S.Begin }) < 2 + (n * attempt triggers run.object run.act (length run.rows) + all_chunks triggers run.object run.chunks)) e
      (fewer (before triggers run.object run.act) (behind triggers run.object run.act) (length (left_over run.rows ts)) (length run.rows) (all_chunks triggers run.object run.chunks) (left_over_few run.rows ts))
    where
      fewer : (b a few many c : ℕ) → few ≤ many → 15 + b + a + few + (left * (16 + b + a + few) + c) < 2 + (suc left * (16 + b + a + many) + c)
      fewer b a few many c h =
          let r = times_few left (16 + b + a + few) (16 + b + a + many) (omega arith) in
          let e : suc left * (16 + b + a + many) ≡ (16 + b + a + many) + left * (16 + b + a + many) = search (arith) in omega arith

  settle_lowers : (all : Bool) (rs : List Record) (ts : List Told) (run : SaveRun) (w : TxnState) → LowersFrom (S.Settle rs) run (settle all ts run w)
  settle_lowers true rs ts run w = settled_lowers (first_failed ts) rs ts run w
  settle_lowers false rs ts run w = retried_lowers (failed_in ts) run.left rs ts run w refl

  object_lowers : (o : Option Object) (go : Object → Move) (st : Stage) (run : SaveRun) (w : TxnState) → ((x : Object) → LowersFrom st run (go x)) → LowersFrom st run (with_object site triggers o go run w)
  object_lowers None go st run w h = tt
  object_lowers (Some o) go st run w h = h o

  behind_lowers : (phase : Phase) (rs : List Record) (run : SaveRun) → of (M.behind phase rs) run < of (S.Enter phase rs) run
  behind_lowers P.Refer rs run = plus_less _ _ (rest run) (omega arith)
  behind_lowers P.Before rs run = plus_less _ _ (rest run) (omega arith)
  behind_lowers P.Validate rs run = plus_less _ _ (rest run) (omega arith)
  behind_lowers P.Write rs run = plus_less _ _ (rest run) (omega arith)
  behind_lowers P.After rs run = plus_less _ _ (rest run) (omega arith)
  behind_lowers P.RollUp rs run = plus_less _ _ (rest run) (omega arith)

  inside_lowers : (phase : Phase) (rs : List Record) (run : SaveRun) → of (inside site triggers phase rs run) run < of (S.Enter phase rs) run
  inside_lowers P.Refer rs run = plus_less _ _ (rest run) (omega arith)
  inside_lowers P.Before rs run = let l = length_entries rs in plus_less _ _ (rest run) (omega arith)
  inside_lowers P.Validate rs run = plus_less _ _ (rest run) (omega arith)
  inside_lowers P.Write rs run = plus_less _ _ (rest run) (omega arith)
  inside_lowers P.After rs run = plus_less _ _ (rest run) (omega arith)
  inside_lowers P.RollUp rs run = plus_less _ _ (rest run) (omega arith)

  entered_lowers : (ps : List Pending) (phase : Phase) (rs : List Record) (run : SaveRun) (w : TxnState) → LowersFrom (S.Enter phase rs) run (entered site triggers ps phase rs run w)
  entered_lowers [] phase rs run w = behind_lowers phase rs run
  entered_lowers (p ∷ ps) phase rs run w = charge_lowers Steps (length (p ∷ ps)) (S.Enter phase rs) run w (λ v. Goes (at run (inside site triggers phase rs run)) v) (λ v. inside_lowers phase rs run)

  write_one_lowers : (act : Act) (p : Pending) (done rs : List Record) (o : Object) (run : SaveRun) (w : TxnState) → LowersFrom (S.Write done (Going p ∷ rs)) run (write_one site triggers act p done rs o run w)
  write_one_lowers Inserting p done rs o run w =
      charge_lowers Alloc (row_units o) (S.Write done (Going p ∷ rs)) run w
      (λ v. is_written (record p { row = written (next_id site triggers o v) p.row }) done rs run (put (next_id site triggers o v) p.row (record v { minted = v.minted + 1 })))
      (λ v. plus_less _ _ (rest run) (omega arith))
  write_one_lowers Updating p done rs o run w =
      charge_lowers Alloc (row_units o) (S.Write done (Going p ∷ rs)) run w (λ v. is_written (record p { row = written p.row.id p.row }) done rs run (put p.row.id p.row v)) (λ v. plus_less _ _ (rest run) (omega arith))
  write_one_lowers Deleting p done rs o run w = plus_less _ _ (rest run) (omega arith)

  write_lowers : (done rs : List Record) (o : Object) (run : SaveRun) (w : TxnState) → LowersFrom (S.Write done rs) run (write site triggers done rs o run w)
  write_lowers done [] o run w = plus_less _ _ (rest run) (omega arith)
  write_lowers done (Wrong e ∷ rs) o run w = plus_less _ _ (rest run) (omega arith)
  write_lowers done (Going p ∷ rs) o run w = write_one_lowers run.act p done rs o run w

  lowers_in : (st : Stage) (run : SaveRun) (w : TxnState) → LowersFrom st run (move_in site triggers st run w)
  lowers_in (S.Charge rows) run w = charge_lowers Dml 1 (S.Charge rows) run w (λ v. Goes (at run (S.Count rows)) v) (λ v. omega arith)
  lowers_in (S.Count rows) run w =
      charge_lowers Saved (length rows) (S.Count rows) run w
      (λ v. without_double (is_double (map (λ (r : SaveRow). r.key) rows)) (first_again [] (map (λ (r : SaveRow). r.id) rows)) v (begun (slice_get site.schema.objects run.object) rows run v))
      (λ v. doubles_lower (is_double (map (λ (r : SaveRow). r.key) rows)) (first_again [] (map (λ (r : SaveRow). r.id) rows)) (S.Count rows) run v (begun (slice_get site.schema.objects run.object) rows run v)
      (begun_lowers (slice_get site.schema.objects run.object) rows run v))
  lowers_in S.Next run w = next_lowers run.chunks run w refl
  lowers_in S.Begin run w = begin_lowers run.all run.rows run w
  lowers_in (S.Load answers) run w =
      object_lowers (slice_get site.schema.objects run.object) _ (S.Load answers) run w (λ o.
      replay_lowers (replayed (load site w.overlay.now run.act run.by run.object o (unplaced run.rows)) answers) (S.Load answers) (S.Enter P.Refer) run w
      (λ rs e.
      let l = came_many (length (unplaced run.rows)) (load site w.overlay.now run.act run.by run.object o (unplaced run.rows)) answers rs (finds_load site w.overlay.now run.act run.by run.object o (unplaced run.rows)) e in
      let u = length_unplaced run.rows in plus_less _ _ (rest run) (omega arith)) (λ a. refl))
  lowers_in (S.Enter phase rs) run w = entered_lowers (going rs) phase rs run w
  lowers_in (S.Refer rs answers) run w =
      object_lowers (slice_get site.schema.objects run.object) _ (S.Refer rs answers) run w (λ o.
      replay_lowers (replayed (refer site w.overlay.now run.act o rs) answers) (S.Refer rs answers) (M.behind P.Refer) run w
      (λ more e. let l = came_many (length rs) (refer site w.overlay.now run.act o rs) answers more (finds_refer site w.overlay.now run.act o rs) e in plus_less _ _ (rest run) (omega arith)) (λ a. refl))
  lowers_in (S.Fire side ts es) run w = fire_lowers side ts es run w
  lowers_in (S.Validate rs answers) run w =
      object_lowers (slice_get site.schema.objects run.object) _ (S.Validate rs answers) run w (λ o.
      replay_lowers (replayed (validate site w.overlay.now run.act run.object o rs) answers) (S.Validate rs answers) (M.behind P.Validate) run w
      (λ more e. let l = came_many (length rs) (validate site w.overlay.now run.act run.object o rs) answers more (finds_validate site w.overlay.now run.act run.object o rs) e in plus_less _ _ (rest run) (omega arith)) (λ a. refl))
  lowers_in (S.Write done rs) run w = object_lowers (slice_get site.schema.objects run.object) _ (S.Write done rs) run w (λ o. write_lowers done rs o run w)
  lowers_in (S.Settle rs) run w = settle_lowers run.all rs (told run.rows rs) run w

  -- what is said from the stage where the run stands is said of the run
  from_here : (run : SaveRun) (m : Move) → LowersFrom run.stage run m → Lowers triggers run m
  from_here run (Goes r w) h = h
  from_here run (Asks q) h = h
  from_here run (Fires n c) h = h
  from_here run (Ends outcomes w) h = tt
  from_here run (Throws why w) h = tt
  from_here run (Halts k n w) h = tt

pub moves_end : MovesEnd
moves_end site triggers run w = from_here site triggers run (move site triggers run w) (lowers_in site triggers run.stage run w)
