-- What queries come to.
use Rattle.std.proofs.Common.{◌≡◌, ℕ, suc, ◌+◌, Bool, true, false, List, [], ◌∷◌, ◌++◌, length, map, drop, Option, Some, None, refl, sym, ap, ◌∙◌, subst, append_assoc, append-nil}
use Rattle.std.specs.Prelude.{leb}
use Rattle.apex_num.specs.declared.kind.LimitKind.{LimitKind}
use Rattle.apex_num.specs.declared.kind.LimitKind.TheVariants.{Queries, Rows, Alloc}
use Rattle.apex_meaning.specs.Collections.{items_of}
use Rattle.apex_meaning.specs.Expressions.{Given as GivenRun}
use Rattle.apex_meaning.specs.Meanings.{all_of}
use Rattle.apex_meaning.specs.Queries as E
use Rattle.apex_meaning.specs.Queries.{Bound, all_bound, on_bound, queried_with}
use Rattle.apex_requests.specs.declared.reply.Outcome.TheVariants as O
use Rattle.apex_rows.specs.declared.query.Answer.{Answer}
use Rattle.apex_rows.specs.declared.query.Bind.{Bind}
use Rattle.apex_rows.specs.declared.query.Query.{Query}
use Rattle.apex_rows.specs.declared.query.Query.TheViews.{out-Query}
use Rattle.apex_rows.specs.declared.query.Question.{Question}
use Rattle.apex_rows.specs.declared.row.Found.{Found}
use Rattle.apex_schema.specs.declared.schema.Mode.{Mode}
use Rattle.limit_meter.specs.Charges.{fits, limit_of, count_of}
use Rattle.platform_errors.specs.declared.thrown.Thrown.{Thrown}
use Rattle.query_meaning.specs.Queries.{Answered, Counted, Listed, all_numbers, answer_of, charge_rows, finding, holding, query_if, rows_in, units_of}
use Rattle.query_moves.specs.Moves as Moves
use Rattle.query_moves.specs.Moves.{Move}
use Rattle.query_moves.specs.declared.run.QueryRun.{QueryRun}
use Rattle.query_moves.specs.declared.run.QueryStage.{QueryStage}
use Rattle.query_moves.specs.declared.run.QueryStage.TheVariants as Stage
use Rattle.query_records.specs.declared.bind.BindKind.{BindKind}
use Rattle.query_records.specs.declared.shape.FoundShape.{FoundShape}
use Rattle.query_records.specs.declared.shape.Queried.{Queried}
use Rattle.request_states.specs.Refusals.{no_writes}
use Rattle.request_states.specs.States.{State, keeps, saved, thrown}
use Rattle.save_meaning.proofs.Holding.{bind_bind, bound, weaken}
use Rattle.save_meaning.specs.Results.{Res, Gives, Stops, Stop, bind, leaves_as, Holds}
use Rattle.save_meaning.specs.Sites.{Site}
use Rattle.save_meaning.specs.Transactions as Save
use Rattle.save_meaning.specs.declared.run.TxnState.{TxnState}
use Rattle.store_inquiries.specs.Inquiries.{Inquiry, Found as Done, Asked, inquire, replayed}
use Rattle.tenant_trails.specs.Runs as Trail
use Rattle.txn_heap.specs.declared.thing.Value.{Value}
use Rattle.stack_code.specs.Code.{Given as GivenCode, joined}
use Rattle.stack_code.specs.Steps.{query_next, querying, seen_next}
use Rattle.stack_code.specs.declared.code.Instr.{Instr}
use Rattle.stack_code.specs.declared.code.Instr.TheVariants as I
use Rattle.stack_code.specs.declared.image.Image.{Image}
use Rattle.stack_code.specs.declared.state.Config.{Config}
use Rattle.stack_code.specs.declared.state.Mode.TheVariants as M
use Rattle.program_simulation.proofs.Frames.{ground, in_it}
use Rattle.program_simulation.proofs.OfLists.{pushed, taken_comes, AllPut, all_at}
use Rattle.program_simulation.proofs.OfValues.{Follow}
use Rattle.program_simulation.proofs.Simulates as Sim
use Rattle.program_simulation.proofs.Simulates.{Around, Stands, config, paid, spent, stands_paid, same_reply}

-- as many kinds as codes
as_many : (cs : List GivenCode) → length (map (λ (b : GivenCode). b.1) cs) ≡ length (map (λ (b : GivenCode). b.0) cs)
as_many [] = refl
as_many (c ∷ cs) = ap suc (as_many cs)

module _ (site : Site) (image : Image) (r : Trail.Run) where
  -- ---- a query on its way, at a place of a body

  module _ (a : Around) (pc : ℕ) (temps : List Value) (shape : FoundShape) (q : Query) (binds : List Bind) (mode : Mode) where
    abbrev run : QueryStage → QueryRun
    run stage = record { query = q; binds = binds; mode = mode; stage = stage }

    abbrev within : QueryStage → State → TxnState → Config
    within stage st w = in_it (ground a pc temps st.here) (M.Querying shape (run stage)) st w

    abbrev Runs : QueryStage → State → TxnState → Type 0
    Runs stage st w = Sim.Runs site image r (within stage st w) st.world.txn.tape

    -- the machine comes to r by this move
    abbrev Moved : QueryStage → Move → State → TxnState → Type 0
    Moved stage m st w = Sim.Comes site image r (querying site.schema shape m (within stage st w)) (within stage st w) st.world.txn.tape

    moved : (stage : QueryStage) (m : Move) (st : State) (w : TxnState) → Moves.move site (run stage) w ≡ m → Moved stage m st w → Runs stage st w
    moved stage m st w e h = Sim.stepped site image r (within stage st w) st.world.txn.tape (querying site.schema shape m (within stage st w)) (ap (λ x. querying site.schema shape x (within stage st w)) e) h

    abbrev End : Stop Thrown → State → Type 0
    End why s = Sim.Stopped site image r a (leaves_as thrown why) s

    -- the meter has room exactly where the list of charges has; the machine itself stands where the move found it
    charged : (kind : LimitKind) (n : ℕ) (stage : QueryStage) (st : State) (w before : TxnState) (go : TxnState → Move) (good : State → Type 0) → Stands a.below st w → Holds (λ u s. good s) End (Save.charge keeps kind n st) →
        (Stands a.below (paid kind n st) (spent kind n w) → good (paid kind n st) → Moved stage (go (spent kind n w)) st before) → Moved stage (Moves.charged kind n w go) st before
    charged kind n stage st w before go good b post then = by (fits kind n st.world.txn.charges) (ap (λ x. leb (x + n) (limit_of kind)) (b.alike.counts.each kind)) post where
      by : (x : Bool) → leb (count_of w.meter kind + n) (limit_of kind) ≡ x → Holds (λ u s. good s) End (Save.charge_if keeps x kind n st) → Moved stage (Moves.charged kind n w go) st before
      by true e h =
          Sim.comes_as site image r _ _ _ _ (ap (λ x. querying site.schema shape (Moves.charged_if x kind n w go) (within stage st before)) e) (then (stands_paid a.below st w kind n b) h)
      by false e h =
          Sim.comes_as site image r _ _ _ _ (ap (λ x. querying site.schema shape (Moves.charged_if x kind n w go) (within stage st before)) e)
          (0, ap Some (ap (λ x. Trail.Ends x no_writes) (same_reply (O.Limit kind (limit_of kind + 1)) a.below.saved st w b.alike) ∙ h a.below.saved w b.alike))

    -- ---- an inquiry, in a stage that keeps the answers so far

    module _ {A : Type 0} (stage : List Answer → QueryStage) (takes : (answers : List Answer) (b : Answer) → Moves.given_in (stage answers) b ≡ stage (answers ++ b ∷ [])) (came : A → Move) (w : TxnState) where
      -- on these answers and more it comes to what this rest of it comes to on those more
      abbrev Rest : List Answer → Inquiry A → Type 0
      Rest answers i = (more : List Answer) → Moves.move site (run (stage (answers ++ more))) w ≡ replayed came Moves.Asks i more

      -- what was found leads on
      abbrev Came : A → State → Type 0
      Came x s = Stands a.below s w → (answers : List Answer) → Moved (stage answers) (came x) s w

      here : (answers : List Answer) (i : Inquiry A) → Rest answers i → Moves.move site (run (stage answers)) w ≡ replayed came Moves.Asks i []
      here answers i rest = ap (λ xs. Moves.move site (run (stage xs)) w) (sym (append-nil answers)) ∙ rest []

      behind : (answers : List Answer) (question : Question) (next : Answer → Inquiry A) (b : Answer) → Rest answers (Asked question next) → Rest (answers ++ b ∷ []) (next b)
      behind answers question next b rest more = ap (λ xs. Moves.move site (run (stage xs)) w) (append_assoc answers (b ∷ []) more) ∙ rest (b ∷ more)

      -- a question takes the next answer of the tape
      asked : (answers : List Answer) (question : Question) (next : Answer → Inquiry A) (st : State) → Rest answers (Asked question next) → Stands a.below st w →
          ((b : Answer) (s : State) → Stands a.below s w → Holds Came End (inquire keeps (next b) s) → Runs (stage (answers ++ b ∷ [])) s w) →
          Holds Came End (inquire keeps (Asked question next) st) → Runs (stage answers) st w
      asked answers question next st rest b go post =
          moved (stage answers) (Moves.Asks question) st w (here answers (Asked question next) rest) (by st.world.txn.tape (bound Came End (Save.ask keeps question st) (λ x s. inquire keeps (next x) s) post))
        where
          by : (tape : List Answer) → Holds (λ x s. Holds Came End (inquire keeps (next x) s)) End (Save.answered keeps question tape st) →
              Sim.Comes site image r (querying site.schema shape (Moves.Asks question) (within (stage answers) st w)) (within (stage answers) st w) tape
          by [] h = (0, ap Some (h a.below.saved w b.alike))
          by (x ∷ more) h =
              let s : State = record st { world = record (st.world) { txn = record (st.world.txn) { tape = more } } } in
              subst (λ y. Sim.Runs site image r (within y s w) more) (sym (takes answers x)) (go x s (record { alike = record { overlay = b.alike.overlay; minted = b.alike.minted; counts = b.alike.counts; eight = b.alike.eight }; calls = b.calls; firings = b.firings }) h)

      -- what the rest of it comes to is what the machine comes to
      inquired : (i : Inquiry A) (answers : List Answer) (st : State) → Rest answers i → Stands a.below st w → Holds Came End (inquire keeps i st) → Runs (stage answers) st w
      inquired (Done x) answers st rest b post = moved (stage answers) (came x) st w (here answers (Done x) rest) (post b answers)
      inquired (Asked question next) answers st rest b post =
          asked answers question next st rest b (λ x s c h. inquired (next x) (answers ++ x ∷ []) s (behind answers question next x rest) c h) post

    -- ---- the stages, the last one first

    module _ (k : List Instr) (d : drop pc (Sim.code image a) ≡ k) where
      -- what is left to show of what the query comes to
      abbrev Then : Res State Thrown Answered → Type 0
      Then res = Follow site image r a k temps (bind (saved res) (E.answered site shape))

      -- so behind its first part
      part : {A : Type 0} (res : Res State Thrown A) (go : A → State → Res State Thrown Answered) → Then (bind res go) → Holds (λ x s. Then (go x s)) End res
      part (Gives x s) go h = h
      part (Stops why s) go h = h

      -- its answer is put: a number, or the list of the new records
      ended : (stage : QueryStage) (x : Answered) (st : State) (w : TxnState) → Stands a.below st w → Then (Gives x st) → Moved stage (Moves.Ends x w) st w
      ended stage (Counted n) st w b h = h.by pc w b d
      ended stage (Listed found) st w b h = h.by pc w (record { alike = b.alike; calls = b.calls; firings = b.firings }) d

      abbrev locked : List Found → Inquiry (Unit {0})
      locked found = holding site.ticket (out-Query q).locked found

      abbrev last : List Found → State → Res State Thrown Answered
      last found s = Gives (answer_of (out-Query q).counted found) s

      abbrev holds : List Found → State → Res State Thrown Answered
      holds found s = bind (inquire keeps (locked found) s) (λ u s1. last found s1)

      -- rows are held
      held : (found : List Found) (st : State) (w : TxnState) → Stands a.below st w → Then (holds found st) → Runs (Stage.Hold found []) st w
      held found st w b h =
          inquired (λ answers. Stage.Hold found answers) (λ answers x. refl) (λ (u : Unit {0}). Moves.Ends (answer_of (out-Query q).counted found) w) w (locked found) [] st (λ more. refl) b
          (weaken _ _ End (inquire keeps (locked found) st) (λ u s g c answers. ended (Stage.Hold found answers) (answer_of (out-Query q).counted found) s w c g)
          (part (inquire keeps (locked found) st) (λ u s. last found s) h))

      abbrev counts : List Found → State → Res State Thrown Answered
      counts found s = bind (charge_rows keeps site mode binds (out-Query q).counted (rows_in found) s) (λ u s1. holds found s1)

      -- rows are charged
      rows_charged : (counted : Bool) (found : List Found) (stage : QueryStage) (st : State) (w : TxnState) → Stands a.below st w → Then (bind (charge_rows keeps site mode binds counted (rows_in found) st) (λ u s. holds found s)) →
          Moved stage (Moves.charged_rows site counted (rows_in found) w (λ v. Moves.Goes (run (Stage.Hold found [])) v)) st w
      rows_charged true found stage st w b h =
          charged Rows 1 stage st w w (λ v. Moves.Goes (run (Stage.Hold found [])) v) (λ s. Then (holds found s)) b (part (Save.charge keeps Rows 1 st) (λ u s. holds found s) h)
          (λ c g. held found (paid Rows 1 st) (spent Rows 1 w) c g)
      rows_charged false found stage st w b h =
          let n = length (rows_in found) in
          let units = units_of site.schema (rows_in found) in
          let rest : Unit {0} → State → Res State Thrown Answered = λ u s. bind (Save.charge keeps Alloc units s) (λ u1 s1. holds found s1) in
          charged Rows n stage st w w (λ v. Moves.charged Alloc units v (λ x. Moves.Goes (run (Stage.Hold found [])) x)) (λ s. Then (rest tt s)) b
          (part (Save.charge keeps Rows n st) rest (subst Then (bind_bind (Save.charge keeps Rows n st) (λ u s. Save.charge keeps Alloc units s) (λ u s. holds found s)) h))
          (λ c g. charged Alloc units stage (paid Rows n st) (spent Rows n w) w (λ x. Moves.Goes (run (Stage.Hold found [])) x) (λ s. Then (holds found s)) c
          (part (Save.charge keeps Alloc units (paid Rows n st)) (λ u s. holds found s) g)
          (λ e f. held found (paid Alloc units (paid Rows n st)) (spent Alloc units (spent Rows n w)) e f))

      -- rows are found
      found_at : (st : State) (w : TxnState) → Stands a.below st w → Then (bind (inquire keeps (finding site st.world.txn.overlay mode binds q) st) (λ found s. counts found s)) → Runs (Stage.Find []) st w
      found_at st w b h =
          inquired (λ answers. Stage.Find answers) (λ answers x. refl) came w (finding site st.world.txn.overlay mode binds q) [] st
          (λ more. ap (λ o. replayed came Moves.Asks (finding site o mode binds q) more) (ap (λ o. o.now) b.alike.overlay)) b
          (weaken _ _ End (inquire keeps (finding site st.world.txn.overlay mode binds q) st) (λ found s g c answers. rows_charged (out-Query q).counted found (Stage.Find answers) s w c g)
          (part (inquire keeps (finding site st.world.txn.overlay mode binds q) st) (λ found s. counts found s) h))
        where
          came : List Found → Move
          came found = Moves.charged_rows site (out-Query q).counted (rows_in found) w (λ v. Moves.Goes (run (Stage.Hold found [])) v)

      -- a LIMIT or OFFSET that is no number throws
      begun : (numbers : Bool) (st : State) (w : TxnState) → Stands a.below st w → Then (query_if keeps site mode binds numbers q st) → Moved Stage.Begin (Moves.begun numbers (run Stage.Begin) w) st w
      begun false st w b h = h.by pc temps w b
      begun true st w b h =
          charged Queries 1 Stage.Begin st w w (λ v. Moves.Goes (run (Stage.Find [])) v) (λ s. Then (bind (inquire keeps (finding site s.world.txn.overlay mode binds q) s) (λ found s1. counts found s1))) b
          (part (Save.charge keeps Queries 1 st) (λ u s. bind (inquire keeps (finding site s.world.txn.overlay mode binds q) s) (λ found s1. counts found s1)) h)
          (λ c g. found_at (paid Queries 1 st) (spent Queries 1 w) c g)

      -- the whole query
      query_runs : (st : State) (w : TxnState) → Stands a.below st w → Then (query_if keeps site mode binds (all_numbers binds q) q st) → Runs Stage.Begin st w
      query_runs st w b h = moved Stage.Begin (Moves.begun (all_numbers binds q) (run Stage.Begin) w) st w refl (begun (all_numbers binds q) st w b h)

  -- ---- a query whose binds are on the operand stack

  bound_at : (q : Queried) (o : Bound (List Bind)) (a : Around) (k : List Instr) (temps old : List Value) (st : State) (pc : ℕ) (w : TxnState) → Stands a.below st w → drop (pc + 1) (Sim.code image a) ≡ k → Follow site image r a k temps (on_bound site q o st) →
      Sim.Comes site image r (query_next q o (config a pc old st w) temps) (config a pc old st w) st.world.txn.tape
  bound_at q (E.Throws t) a k temps old st pc w b d post = post.by pc [] w b
  bound_at q (E.Has binds) a k temps old st pc w b d post = query_runs a (pc + 1) temps q.shape q.query binds st.here.mode k d st w b post

  taking_at : (q : Queried) (kinds : List BindKind) (vs : List Value) (a : Around) (k : List Instr) (temps : List Value) (st : State) → length vs ≡ length kinds → Follow site image r a k temps (on_bound site q (all_bound kinds vs st.world.heap) st) →
      Sim.At site image r a (I.Query q kinds ∷ k) (pushed vs temps) st
  taking_at q kinds vs a k temps st e post =
      Sim.first site image r a (I.Query q kinds) k (pushed vs temps) st (λ pc w b d.
      taken_comes site image r (length kinds) vs temps (λ xs rest. query_next q (all_bound kinds xs st.world.heap) (config a pc (pushed vs temps) st w) rest) (config a pc (pushed vs temps) st w) st.world.txn.tape e
      (bound_at q (all_bound kinds vs st.world.heap) a k temps (pushed vs temps) st pc w b d post))

  -- a list or a set that is there
  seen_by : (o : Option (List Value)) (v : Value) (a : Around) (k : List Instr) (temps old : List Value) (st : State) (pc : ℕ) (w : TxnState) → Stands a.below st w → drop (pc + 1) (Sim.code image a) ≡ k → Follow site image r a k temps (E.seen_items o v st) →
      Sim.Comes site image r (seen_next o v (config a pc old st w) temps) (config a pc old st w) st.world.txn.tape
  seen_by None v a k temps old st pc w b d post = post.by pc [] w b
  seen_by (Some vs) v a k temps old st pc w b d post = post.by (pc + 1) w b d

  pub seen_at : Sim.Takes site image r E.seen (I.Seen ∷ [])
  seen_at a v k temps st post = Sim.first site image r a I.Seen k (v ∷ temps) st (λ pc w b d. seen_by (items_of v st.world.heap) v a k temps (v ∷ temps) st pc w b d post)

  -- binds of the same kinds, and one code for each
  abbrev pub AllBind : List GivenRun → List GivenCode → Type 0
  AllBind [] [] = Unit {0}
  AllBind [] (c ∷ cs) = ⊥
  AllBind (f ∷ fs) [] = ⊥
  AllBind (f ∷ fs) (c ∷ cs) = ((f.0 ≡ c.0) × Sim.Puts site image r f.1 c.1) × AllBind fs cs

  same_kinds : (fs : List GivenRun) (cs : List GivenCode) → AllBind fs cs → map (λ (b : GivenRun). b.0) fs ≡ map (λ (b : GivenCode). b.0) cs
  same_kinds [] [] h = refl
  same_kinds [] (c ∷ cs) h = absurd h
  same_kinds (f ∷ fs) [] h = absurd h
  same_kinds (f ∷ fs) (c ∷ cs) h = ap (λ x. x ∷ map (λ (b : GivenRun). b.0) fs) h.0.0 ∙ ap (λ xs. c.0 ∷ xs) (same_kinds fs cs h.1)

  all_put : (fs : List GivenRun) (cs : List GivenCode) → AllBind fs cs → AllPut site image r (map (λ (b : GivenRun). b.1) fs) (map (λ (b : GivenCode). b.1) cs)
  all_put [] [] h = tt
  all_put [] (c ∷ cs) h = absurd h
  all_put (f ∷ fs) [] h = absurd h
  all_put (f ∷ fs) (c ∷ cs) h = (h.0.1, all_put fs cs h.1)

  pub query_at : (q : Queried) (fs : List GivenRun) (cs : List GivenCode) → AllBind fs cs →
      Sim.Puts site image r (λ st. bind (all_of (map (λ (b : GivenRun). b.1) fs) st) (λ vs s. on_bound site q (all_bound (map (λ (b : GivenRun). b.0) fs) vs s.world.heap) s)) (joined (map (λ (b : GivenCode). b.1) cs) ++ I.Query q (map (λ (b : GivenCode). b.0) cs) ∷ [])
  query_at q fs cs h a k temps st post =
      let kinds : List BindKind = map (λ (b : GivenCode). b.0) cs in
      Sim.again_at site image r a (joined (map (λ (b : GivenCode). b.1) cs)) (I.Query q kinds ∷ []) k temps st
      (all_at site image r (map (λ (b : GivenRun). b.1) fs) (map (λ (b : GivenCode). b.1) cs) (all_put fs cs h) a (I.Query q kinds ∷ k) temps st
      (weaken _ _ (Sim.Stopped site image r a) (all_of (map (λ (b : GivenRun). b.1) fs) st)
      (λ vs s g n. taking_at q kinds vs a k temps s (n ∙ as_many cs) (subst (λ ks. Follow site image r a k temps (on_bound site q (all_bound ks vs s.world.heap) s)) (same_kinds fs cs h) g))
      (bound (λ v s. Sim.At site image r a k (v ∷ temps) s) (Sim.Stopped site image r a) (all_of (map (λ (b : GivenRun). b.1) fs) st) (λ vs s. on_bound site q (all_bound (map (λ (b : GivenRun). b.0) fs) vs s.world.heap) s) post)))
