-- What instructions of things, and calls of built-in methods, come to.
use Rattle.std.proofs.Common.{◌≡◌, ℕ, zero, suc, pos, ◌+◌, ◌*◌, Bool, true, false, List, [], ◌∷◌, ◌++◌, length, drop, map, slice_get, Option, None, Some, refl, sym, ap, ◌∙◌}
use Rattle.request_states.specs.Expressions.{all_pairs, make_record}
use Rattle.request_states.specs.States.{State, Res, charge, make, with_line, with_heap}
use Rattle.request_states.specs.Values.{null}
use Rattle.apex_num.specs.declared.cell.Cell.{Cell}
use Rattle.apex_num.specs.declared.cell.Cell.TheVariants as C
use Rattle.apex_num.specs.declared.kind.LimitKind.{LimitKind}
use Rattle.apex_num.specs.declared.kind.LimitKind.TheVariants as K
use Rattle.builtin_sizes.specs.Sizes.{sized}
use Rattle.builtin_table.specs.Answers.{Answer}
use Rattle.builtin_table.specs.Meanings.{meaning}
use Rattle.builtin_table.specs.declared.exception.ExceptionClass.{ExceptionClass}
use Rattle.builtin_table.specs.declared.method.Builtin.{Builtin as Which}
use Rattle.builtin_table.specs.declared.method.MomentMethod.TheVariants.{Date}
use Rattle.builtin_table.specs.declared.method.Builtin.TheVariants as B
use Rattle.builtin_table.specs.declared.method.PlatformMethod.{PlatformMethod}
use Rattle.builtin_table.specs.declared.method.PlatformMethod.TheVariants as P
use Rattle.heap_methods.specs.Making.{map_of, copied}
use Rattle.heap_methods.specs.Methods.{method, units}
use Rattle.heap_methods.specs.Outcomes.{Outcome, Done, Answers, Throws, done as things_done, units_of}
use Rattle.apex_meaning.specs.Builtins.{cell_in, first_of, rest_of, charge_answer, answered, on_cells, message_answered, if_exception, on_exception, on_platform, called_builtin, count, if_takes_error, add_message, add_error}
use Rattle.apex_meaning.specs.Collections.{done, on_collection, make_for, make_filled, make_map, collection, make_outcome, make_copy, message_among, make_exception}
use Rattle.request_states.specs.Runs.{Setting, site_of}
use Rattle.apex_meaning.specs.Classes.{name_or}
use Rattle.apex_meaning.specs.Exceptions.{Kind, BuiltIn, Declared, Nothing, kind_of_thing, name_of_kind, message_of_thing, is_built_in, is_declared}
use Rattle.stack_code.specs.Machine
use Rattle.program_simulation.proofs.Classes.{IsImage, name_in}
use Rattle.typed_program.specs.declared.unit.TypedClass.{TypedClass}
use Rattle.apex_meaning.specs.Expressions.{Entry, all_entries, cast_if, cast_to, say}
use Rattle.apex_meaning.specs.Meanings.{Again, Run, calc}
use Rattle.apex_meaning.specs.Operations.{text_made}
use Rattle.apex_meaning.specs.Records.{children_in, only, parent_in}
use Rattle.limit_meter.specs.Charges.{counter}
use Rattle.save_meaning.proofs.Holding.{bound, weaken}
use Rattle.save_meaning.specs.Results.{Gives, bind, Holds}
use Rattle.save_meaning.specs.Sites.{Site}
use Rattle.save_meaning.specs.declared.run.TxnState.{TxnState}
use Rattle.tenant_trails.specs.Runs as Trail
use Rattle.txn_heap.specs.Guards.{guard_of, takes_error, with_error}
use Rattle.txn_heap.specs.declared.thing.Thing.{Thing}
use Rattle.txn_heap.specs.declared.thing.Thing.TheVariants as T
use Rattle.txn_heap.specs.declared.thing.Value.{Value}
use Rattle.txn_heap.specs.declared.thing.Value.TheVariants.{Plain, Object}
use Rattle.typed_program.specs.declared.expr.CollectionKind.{CollectionKind}
use Rattle.typed_program.specs.declared.expr.CollectionKind.TheVariants as Kinds
use Rattle.value_texts.specs.Texts.{text_of}
use Rattle.stack_code.specs.Machine.{Next, next, charged}
use Rattle.stack_code.specs.Things as M
use Rattle.stack_code.specs.declared.code.Instr.{Instr}
use Rattle.stack_code.specs.declared.code.Instr.TheVariants as I
use Rattle.stack_code.specs.declared.image.Image.{Image}
use Rattle.stack_code.specs.declared.state.Config.{Config}
use Rattle.program_simulation.proofs.Simulates as Sim
use Rattle.program_simulation.proofs.Simulates.{Around, Stands, config}
use Rattle.program_simulation.proofs.OfValues.{Follow, calc_at, text_at}
use Rattle.stack_code.specs.Code.{fields_of, joined, pairs_code}
use Rattle.program_simulation.proofs.OfLists.{pushed, taken_comes, flat, flat_length, flat_pairs, names, values, as_many, paired_again, AllEnter, entries_at, AllFill, pairs_at}

module _ (site : Site) (image : Image) (r : Trail.Run) where
  abbrev At : Around → List Instr → List Value → State → Type 0
  At a k temps st = Sim.At site image r a k temps st

  abbrev Comes : Around → ℕ → List Value → State → TxnState → Next → Type 0
  Comes a pc old st w x = Sim.Comes site image r x (config a pc old st w) st.world.txn.tape

  -- what follows a result while an instruction runs: the machine, which stands there yet, goes on with the value
  abbrev pub Onward : {A : Type 0} → Around → ℕ → List Value → (A → Config → Next) → Config → Res A → Type 0
  Onward a pc old go c res = Holds (λ x s. (v : TxnState) → Stands a.below s v → Sim.Comes site image r (go x (config a pc old s v)) c s.world.txn.tape) (Sim.Stopped site image r a) res

  -- the next instruction goes on with the value on the stack
  pub onward : (a : Around) (pc : ℕ) (k : List Instr) (temps old : List Value) (c : Config) (res : Res Value) → drop (pc + 1) (Sim.code image a) ≡ k → Follow site image r a k temps res → Onward a pc old (λ v d. next d (v ∷ temps)) c res
  onward a pc k temps old c res d post = weaken _ _ (Sim.Stopped site image r a) res (λ x s h v b. h.by (pc + 1) v b d) post

  -- ---- things that are made

  -- a thing is charged before it is made
  pub made_at : (a : Around) (n : ℕ) (thing : Thing) (k : List Instr) (temps old : List Value) (st : State) (pc : ℕ) (w : TxnState) → Stands a.below st w → drop (pc + 1) (Sim.code image a) ≡ k → Follow site image r a k temps (make_for n thing st) →
      Comes a pc old st w (M.make_for n thing (config a pc old st w) temps)
  made_at a n thing k temps old st pc w b d post =
      Sim.charge_at site image r a K.Alloc n st pc old w _ (config a pc old st w) b
      (weaken _ _ (Sim.Stopped site image r a) (charge K.Alloc n st) (λ u s h v x. h.by (pc + 1) v x d)
      (bound (λ v s. At a k (v ∷ temps) s) (Sim.Stopped site image r a) (charge K.Alloc n st) (λ u s. make thing s) post))

  filled_by : (a : Around) (kind : CollectionKind) (vs : List Value) (k : List Instr) (temps old : List Value) (st : State) (pc : ℕ) (w : TxnState) → Stands a.below st w → drop (pc + 1) (Sim.code image a) ≡ k → Follow site image r a k temps (make_filled kind vs st) →
      Comes a pc old st w (M.filled_next kind vs (config a pc old st w) temps)
  filled_by a Kinds.List vs k temps old st pc w b d post = made_at a _ _ k temps old st pc w b d post
  filled_by a (Kinds.Set p) vs k temps old st pc w b d post = made_at a _ _ k temps old st pc w b d post
  filled_by a (Kinds.Map p) vs k temps old st pc w b d post = made_at a _ _ k temps old st pc w b d post

  pub filled_at : (a : Around) (kind : CollectionKind) (n : ℕ) (vs : List Value) (k : List Instr) (temps : List Value) (st : State) → length vs ≡ n → Follow site image r a k temps (make_filled kind vs st) → At a (I.Filled kind n ∷ k) (pushed vs temps) st
  filled_at a kind n vs k temps st e post =
      Sim.first site image r a (I.Filled kind n) k (pushed vs temps) st (λ pc w b d. taken_comes site image r n vs temps (λ xs rest. M.filled_next kind xs (config a pc (pushed vs temps) st w) rest) (config a pc (pushed vs temps) st w) st.world.txn.tape e (filled_by a kind vs k temps (pushed vs temps) st pc w b d post))

  pub exception_at : (a : Around) (x : ExceptionClass) (n : ℕ) (vs : List Value) (k : List Instr) (temps : List Value) (st : State) → length vs ≡ n → Follow site image r a k temps (make_exception x vs st) → At a (I.Exception x n ∷ k) (pushed vs temps) st
  exception_at a x n vs k temps st e post =
      Sim.first site image r a (I.Exception x n) k (pushed vs temps) st (λ pc w b d. taken_comes site image r n vs temps (λ xs rest. M.make_for 32 (T.Exception (record { class = x; message = message_among xs })) (config a pc (pushed vs temps) st w) rest) (config a pc (pushed vs temps) st w) st.world.txn.tape e (made_at a _ _ k temps (pushed vs temps) st pc w b d post))

  pub entries_made_at : (a : Around) (n : ℕ) (ps : List (Value × Value)) (k : List Instr) (temps : List Value) (st : State) → length ps ≡ n → Follow site image r a k temps (make_map ps st) → At a (I.Entries n ∷ k) (pushed (flat ps) temps) st
  entries_made_at a n ps k temps st e post =
      Sim.first site image r a (I.Entries n) k (pushed (flat ps) temps) st (λ pc w b d. taken_comes site image r (n + n) (flat ps) temps (λ xs rest. M.entries_next xs (config a pc (pushed (flat ps) temps) st w) rest) (config a pc (pushed (flat ps) temps) st w) st.world.txn.tape (flat_length ps ∙ ap (λ m. m + m) e)
      (Sim.comes_as site image r _ (M.make_for (32 + 32 * length (map_of ps)) (T.Map (map_of ps)) (config a pc (pushed (flat ps) temps) st w) temps) _ _
      (ap (λ qs. M.make_for (32 + 32 * length (map_of qs)) (T.Map (map_of qs)) (config a pc (pushed (flat ps) temps) st w) temps) (flat_pairs ps))
      (made_at a _ _ k temps (pushed (flat ps) temps) st pc w b d post)))

  pub record_at : (a : Around) (object : ℕ) (fields : List ℕ) (qs : List (ℕ × Value)) (k : List Instr) (temps : List Value) (st : State) → names qs ≡ fields → Follow site image r a k temps (make_record site object qs st) → At a (I.Record object fields ∷ k) (pushed (values qs) temps) st
  record_at a object fields qs k temps st e post =
      Sim.first site image r a (I.Record object fields) k (pushed (values qs) temps) st (λ pc w b d. taken_comes site image r (length fields) (values qs) temps (λ xs rest. M.record_next site object (M.paired fields xs) (config a pc (pushed (values qs) temps) st w) rest) (config a pc (pushed (values qs) temps) st w) st.world.txn.tape (as_many qs ∙ ap length e)
      (Sim.comes_as site image r _ (M.record_next site object qs (config a pc (pushed (values qs) temps) st w) temps) _ _
      (ap (λ fs. M.record_next site object (M.paired fs (values qs)) (config a pc (pushed (values qs) temps) st w) temps) (sym e) ∙ ap (λ ps. M.record_next site object ps (config a pc (pushed (values qs) temps) st w) temps) (paired_again qs))
      (made_at a _ _ k temps (pushed (values qs) temps) st pc w b d post)))

  -- a new record with these fields, and a new map of these entries
  pub new_record_at : (object : ℕ) (fs : List (ℕ × Run)) (cs : List (ℕ × List Instr)) → AllFill site image r fs cs → Sim.Puts site image r (λ st. bind (all_pairs fs st) (make_record site object)) (pairs_code cs ++ I.Record object (fields_of cs) ∷ [])
  new_record_at object fs cs h a k temps st post =
      Sim.again_at site image r a (pairs_code cs) (I.Record object (fields_of cs) ∷ []) k temps st
      (pairs_at site image r fs cs h a (I.Record object (fields_of cs) ∷ k) temps st
      (weaken _ _ (Sim.Stopped site image r a) (all_pairs fs st) (λ qs s g n. record_at a object (fields_of cs) qs k temps s n g)
      (bound (λ v s. At a k (v ∷ temps) s) (Sim.Stopped site image r a) (all_pairs fs st) (make_record site object) post)))

  pub new_map_at : (fs : List Entry) (cs : List (List Instr)) → AllEnter site image r fs cs → Sim.Puts site image r (λ st. bind (all_entries fs st) make_map) (joined cs ++ I.Entries (length cs) ∷ [])
  new_map_at fs cs h a k temps st post =
      Sim.again_at site image r a (joined cs) (I.Entries (length cs) ∷ []) k temps st
      (entries_at site image r fs cs h a (I.Entries (length cs) ∷ k) temps st
      (weaken _ _ (Sim.Stopped site image r a) (all_entries fs st) (λ ps s g n. entries_made_at a (length cs) ps k temps s n g)
      (bound (λ v s. At a k (v ∷ temps) s) (Sim.Stopped site image r a) (all_entries fs st) make_map post)))

  -- ---- methods of collections

  done_at : (a : Around) (o : Done) (pc : ℕ) (old : List Value) (st : State) (w : TxnState) (go : Value → Config → Next) (c : Config) → Stands a.below st w → Onward a pc old go c (done o st) → Sim.Comes site image r (M.done_next o (config a pc old st w) go) c st.world.txn.tape
  done_at a (Answers v heap) pc old st w go c b post = post w b
  done_at a (Throws k text) pc old st w go c b post = post.by pc [] w b

  pub collection_at : (a : Around) (which : Which) (v : Value) (args : List Value) (pc : ℕ) (old : List Value) (st : State) (w : TxnState) (go : Value → Config → Next) (c : Config) → Stands a.below st w → Onward a pc old go c (on_collection which v args st) →
      Sim.Comes site image r (M.collection which v args (config a pc old st w) go) c st.world.txn.tape
  collection_at a which (Plain k) args pc old st w go c b post = post.by pc [] w b
  collection_at a which (Object ref) args pc old st w go c b post =
      Sim.charge_at site image r a K.Alloc (units which ref.place args st.world.heap) st pc old w _ c b
      (weaken _ _ (Sim.Stopped site image r a) (charge K.Alloc (units which ref.place args st.world.heap) st) (λ u s h v x. done_at a (method which ref.place args s.world.heap) pc old s v go c x h)
      (bound (λ x s. (v : TxnState) → Stands a.below s v → Sim.Comes site image r (go x (config a pc old s v)) c s.world.txn.tape) (Sim.Stopped site image r a) (charge K.Alloc (units which ref.place args st.world.heap) st) (λ u s. done (method which ref.place args s.world.heap) s) post))

  pub copied_at : (kind : CollectionKind) → Sim.Takes site image r (make_copy kind) (I.Copied kind ∷ [])
  copied_at kind a v k temps st post =
      Sim.first site image r a (I.Copied kind) k (v ∷ temps) st (λ pc w b d. outcome_at (copied (collection kind) v st.world.heap) pc w b d post)
    where
      outcome_at : (o : Outcome) (pc : ℕ) (w : TxnState) → Stands a.below st w → drop (pc + 1) (Sim.code image a) ≡ k → Follow site image r a k temps (make_outcome o st) →
          Comes a pc (v ∷ temps) st w (M.copied_next o (config a pc (v ∷ temps) st w) temps)
      outcome_at o pc w b d post =
          Sim.charge_at site image r a K.Alloc (units_of None o) st pc (v ∷ temps) w _ (config a pc (v ∷ temps) st w) b
          (weaken _ _ (Sim.Stopped site image r a) (charge K.Alloc (units_of None o) st) (λ u s h x y. done_at a (things_done 0 s.world.heap o) pc (v ∷ temps) s x _ (config a pc (v ∷ temps) st w) y (onward a pc k temps (v ∷ temps) (config a pc (v ∷ temps) st w) (done (things_done 0 s.world.heap o) s) d h))
          (bound (λ x s. At a k (x ∷ temps) s) (Sim.Stopped site image r a) (charge K.Alloc (units_of None o) st) (λ u s. done (things_done 0 s.world.heap o) s) post))

  -- ---- records and what a query gave with them

  pub parent_at : (field : ℕ) (goes_on : Bool) → Sim.Takes site image r (λ v st. calc (parent_in site.schema field goes_on v st.world.heap) st) (I.Parent field goes_on ∷ [])
  parent_at field goes_on a v k temps st post =
      Sim.first site image r a (I.Parent field goes_on) k (v ∷ temps) st (λ pc w b d. calc_at site image r a (parent_in site.schema field goes_on v st.world.heap) k temps (v ∷ temps) st pc w b d post)

  pub children_at : (object field : ℕ) (goes_on : Bool) → Sim.Takes site image r (λ v st. calc (children_in site.schema object field goes_on v st.world.heap) st) (I.Children object field goes_on ∷ [])
  children_at object field goes_on a v k temps st post =
      Sim.first site image r a (I.Children object field goes_on) k (v ∷ temps) st (λ pc w b d. calc_at site image r a (children_in site.schema object field goes_on v st.world.heap) k temps (v ∷ temps) st pc w b d post)

  pub only_at : Sim.Takes site image r (λ v st. calc (only v st.world.heap) st) (I.Only ∷ [])
  only_at a v k temps st post = Sim.first site image r a I.Only k (v ∷ temps) st (λ pc w b d. calc_at site image r a (only v st.world.heap) k temps (v ∷ temps) st pc w b d post)

  -- ---- methods of primitives, of exceptions and of the platform

  answered_at : (a : Around) (x : Answer) (k : List Instr) (temps old : List Value) (st : State) (pc : ℕ) (w : TxnState) (c : Config) → Stands a.below st w → drop (pc + 1) (Sim.code image a) ≡ k → Follow site image r a k temps (answered x st) →
      Sim.Comes site image r (M.answered_next x (config a pc old st w) temps) c st.world.txn.tape
  answered_at a (Answer.Gives cell) k temps old st pc w c b d post = post.by (pc + 1) w b d
  answered_at a (Answer.Throws x text) k temps old st pc w c b d post = post.by pc [] w b

  sized_at : (a : Around) (o : Option ℕ) (x : Answer) (k : List Instr) (temps old : List Value) (st : State) (pc : ℕ) (w : TxnState) → Stands a.below st w → drop (pc + 1) (Sim.code image a) ≡ k → Follow site image r a k temps (bind (charge_answer o st) (λ u s. answered x s)) →
      Comes a pc old st w (M.sized_next o (config a pc old st w) (λ d. M.answered_next x d temps))
  sized_at a None x k temps old st pc w b d post = answered_at a x k temps old st pc w (config a pc old st w) b d post
  sized_at a (Some n) x k temps old st pc w b d post =
      Sim.charge_at site image r a K.Alloc (16 + n) st pc old w _ (config a pc old st w) b
      (weaken _ _ (Sim.Stopped site image r a) (charge K.Alloc (16 + n) st) (λ u s h v y. answered_at a x k temps old s pc v (config a pc old st w) y d h)
      (bound (λ v s. At a k (v ∷ temps) s) (Sim.Stopped site image r a) (charge K.Alloc (16 + n) st) (λ u s. answered x s) post))

  cells_at : (a : Around) (which : Which) (cells : List Cell) (k : List Instr) (temps old : List Value) (st : State) (pc : ℕ) (w : TxnState) → Stands a.below st w → drop (pc + 1) (Sim.code image a) ≡ k → Follow site image r a k temps (on_cells which cells st) →
      Comes a pc old st w (M.cells_next which cells (config a pc old st w) temps)
  cells_at a which cells k temps old st pc w b d post = sized_at a (sized (meaning which cells)) (meaning which cells) k temps old st pc w b d post

  message_at : (a : Around) (cell : Cell) (k : List Instr) (temps old : List Value) (st : State) (pc : ℕ) (w : TxnState) → Stands a.below st w → drop (pc + 1) (Sim.code image a) ≡ k → Follow site image r a k temps (message_answered cell st) →
      Comes a pc old st w (M.message_next cell (config a pc old st w) temps)
  message_at a (C.Text t) k temps old st pc w b d post = text_at site image r a t k temps old st pc w b d post
  message_at a cell k temps old st pc w b d post = post.by (pc + 1) w b d

  on_exception_at : (a : Around) (go : Option Thing → Run) (on : Option Thing → Next) (v : Value) (k : List Instr) (temps old : List Value) (st : State) (pc : ℕ) (w : TxnState) → Stands a.below st w →
      ((t : Option Thing) → Follow site image r a k temps (go t st) → Comes a pc old st w (on t)) → Follow site image r a k temps (on_exception go v st) →
      Comes a pc old st w (M.on_exception v (config a pc old st w) on)
  on_exception_at a go on (Plain cell) k temps old st pc w b h post = post.by pc [] w b
  on_exception_at a go on (Object ref) k temps old st pc w b h post = by_kind (kind_of_thing (slice_get st.world.heap ref.place)) (slice_get st.world.heap ref.place) post
    where
      by_kind : (x : Kind) (t : Option Thing) → Follow site image r a k temps (if_exception x (go t) st) → Comes a pc old st w (M.if_exception x (config a pc old st w) (on t))
      by_kind Nothing t post = post.by pc [] w b
      by_kind (BuiltIn c) t post = h t post
      by_kind (Declared c) t post = h t post

  count_at : (a : Around) (x : LimitKind) (k : List Instr) (temps old : List Value) (st : State) (pc : ℕ) (w : TxnState) → Stands a.below st w → drop (pc + 1) (Sim.code image a) ≡ k → Follow site image r a k temps (count x st) →
      Comes a pc old st w (M.count_next x (config a pc old st w) temps)
  count_at a x k temps old st pc w b d post =
      Sim.comes_as site image r (M.count_next x (config a pc old st w) temps) (next (config a pc old st w) (Plain (C.Whole (pos (counter x st.world.txn.charges))) ∷ temps)) (config a pc old st w) st.world.txn.tape (ap (λ n. next (config a pc old st w) (Plain (C.Whole (pos n)) ∷ temps)) (b.alike.counts.each x)) (post.by (pc + 1) w b d)

  -- ---- errors of records

  error_if : (takes : Bool) (a : Around) (place : ℕ) (message : List ℕ) (k : List Instr) (temps old : List Value) (st : State) (pc : ℕ) (w : TxnState) → Stands a.below st w → drop (pc + 1) (Sim.code image a) ≡ k →
      Follow site image r a k temps (if_takes_error takes (λ s. Gives null (with_heap (with_error place message s.world.heap) s)) st) →
      Comes a pc old st w (M.if_takes_error takes (config a pc old st w) (next (Machine.with_heap (config a pc old st w) (with_error place message st.world.heap)) (null ∷ temps)))
  error_if true a place message k temps old st pc w b d post = post.by (pc + 1) w b d
  error_if false a place message k temps old st pc w b d post = post.by pc [] w b

  added_at : (a : Around) (cell : Cell) (place : ℕ) (k : List Instr) (temps old : List Value) (st : State) (pc : ℕ) (w : TxnState) → Stands a.below st w → drop (pc + 1) (Sim.code image a) ≡ k → Follow site image r a k temps (add_message cell place st) →
      Comes a pc old st w (M.message_added cell place (config a pc old st w) temps)
  added_at a (C.Text message) place k temps old st pc w b d post = error_if (takes_error (guard_of st.world.heap place)) a place message k temps old st pc w b d post
  added_at a cell place k temps old st pc w b d post = post.by pc [] w b

  error_at : (a : Around) (v message : Value) (k : List Instr) (temps old : List Value) (st : State) (pc : ℕ) (w : TxnState) → Stands a.below st w → drop (pc + 1) (Sim.code image a) ≡ k → Follow site image r a k temps (add_error v message st) →
      Comes a pc old st w (M.error_next v message (config a pc old st w) temps)
  error_at a (Plain cell) message k temps old st pc w b d post = post.by pc [] w b
  error_at a (Object ref) message k temps old st pc w b d post = added_at a (cell_in message) ref.place k temps old st pc w b d post

  -- ---- casts: null is of every class

  cast_by : (a : Around) (good fits : Kind → Bool) → ((x : Kind) → good x ≡ fits x) → (v : Value) (k : List Instr) (temps old : List Value) (st : State) (pc : ℕ) (w : TxnState) → Stands a.below st w → drop (pc + 1) (Sim.code image a) ≡ k → Follow site image r a k temps (cast_to fits v st) →
      Comes a pc old st w (M.cast_next good v (config a pc old st w) temps)
  cast_by a good fits e (Plain cell) k temps old st pc w b d post = post.by (pc + 1) w b d
  cast_by a good fits e (Object ref) k temps old st pc w b d post =
      Sim.comes_as site image r _ _ _ _ (ap (λ x. M.cast_if x (Object ref) (config a pc old st w) temps) (e (kind_of_thing (slice_get st.world.heap ref.place)))) (by (fits (kind_of_thing (slice_get st.world.heap ref.place))) post)
    where
      by : (x : Bool) → Follow site image r a k temps (cast_if x (Object ref) st) → Comes a pc old st w (M.cast_if x (Object ref) (config a pc old st w) temps)
      by true h = h.by (pc + 1) w b d
      by false h = h.by pc [] w b

  pub cast_exception_at : (x : ExceptionClass) → Sim.Takes site image r (cast_to (is_built_in x)) (I.CastException x ∷ [])
  cast_exception_at x a v k temps st post =
      Sim.first site image r a (I.CastException x) k (v ∷ temps) st (λ pc w b d. cast_by a (is_built_in x) (is_built_in x) (λ y. refl) v k temps (v ∷ temps) st pc w b d post)

module _ (setting : Setting) (image : Image) (r : Trail.Run) (is : IsImage setting.program image) where
  abbrev site : Site
  site = site_of setting

  declared_same : (c : ℕ) (x : Kind) → M.is_declared image c x ≡ is_declared setting.program c x
  declared_same c Nothing = refl
  declared_same c (BuiltIn e) = refl
  declared_same c (Declared k) = is.fits k c

  pub cast_at : (c : ℕ) → Sim.Takes site image r (cast_to (is_declared setting.program c)) (I.Cast c ∷ [])
  cast_at c a v k temps st post =
      Sim.first site image r a (I.Cast c) k (v ∷ temps) st (λ pc w b d. cast_by site image r a (M.is_declared image c) (is_declared setting.program c) (declared_same c) v k temps (v ∷ temps) st pc w b d post)

  -- ---- built-in methods

  name_at : (ks : List TypedClass) (c : ℕ) → M.bytes_or (slice_get (map name_in ks) c) ≡ name_or (slice_get ks c)
  name_at [] c = refl
  name_at (x ∷ ks) zero = refl
  name_at (x ∷ ks) (suc c) = name_at ks c

  pub name_same : (x : Kind) → M.name_of_kind image x ≡ name_of_kind setting.program x
  name_same Nothing = refl
  name_same (BuiltIn c) = refl
  name_same (Declared c) = ap (λ ns. M.bytes_or (slice_get ns c)) is.names ∙ name_at setting.program.classes c

  named_at : (a : Around) (x : Kind) (k : List Instr) (temps old : List Value) (st : State) (pc : ℕ) (w : TxnState) → Stands a.below st w → drop (pc + 1) (Sim.code image a) ≡ k → Follow site image r a k temps (text_made (name_of_kind setting.program x) st) →
      Sim.Comes site image r (M.text_next (M.name_of_kind image x) (config a pc old st w) temps) (config a pc old st w) st.world.txn.tape
  named_at a x k temps old st pc w b d post =
      Sim.comes_as site image r _ _ _ _ (ap (λ t. M.text_next t (config a pc old st w) temps) (name_same x)) (text_at site image r a (name_of_kind setting.program x) k temps old st pc w b d post)

  platform_at : (a : Around) (m : PlatformMethod) (vs : List Value) (k : List Instr) (temps old : List Value) (st : State) (pc : ℕ) (w : TxnState) → Stands a.below st w → drop (pc + 1) (Sim.code image a) ≡ k → Follow site image r a k temps (on_platform setting.program setting.ticket m vs st) →
      Sim.Comes site image r (M.platform_next setting.ticket image m vs (config a pc old st w) temps) (config a pc old st w) st.world.txn.tape
  platform_at a P.Today vs k temps old st pc w b d post = answered_at site image r a (meaning (B.Moment Date) (C.Moment setting.ticket.now ∷ [])) k temps old st pc w (config a pc old st w) b d post
  platform_at a P.Now vs k temps old st pc w b d post = post.by (pc + 1) w b d
  platform_at a P.UserId vs k temps old st pc w b d post = post.by (pc + 1) w b d
  platform_at a P.Message vs k temps old st pc w b d post =
      on_exception_at site image r a (λ t. message_answered (message_of_thing t)) (λ t. M.message_next (message_of_thing t) (config a pc old st w) temps) (first_of vs) k temps old st pc w b
      (λ t h. message_at site image r a (message_of_thing t) k temps old st pc w b d h) post
  platform_at a P.TypeName vs k temps old st pc w b d post =
      on_exception_at site image r a (λ t. text_made (name_of_kind setting.program (kind_of_thing t))) (λ t. M.text_next (M.name_of_kind image (kind_of_thing t)) (config a pc old st w) temps) (first_of vs) k temps old st pc w b
      (λ t h. named_at a (kind_of_thing t) k temps old st pc w b d h) post
  platform_at a P.AddError vs k temps old st pc w b d post = error_at site image r a (first_of vs) (first_of (rest_of vs)) k temps old st pc w b d post
  platform_at a P.Queries vs k temps old st pc w b d post = count_at site image r a K.Queries k temps old st pc w b d post
  platform_at a P.QueryRows vs k temps old st pc w b d post = count_at site image r a K.Rows k temps old st pc w b d post
  platform_at a P.DmlStatements vs k temps old st pc w b d post = count_at site image r a K.Dml k temps old st pc w b d post
  platform_at a P.DmlRows vs k temps old st pc w b d post = count_at site image r a K.Saved k temps old st pc w b d post
  platform_at a P.LimitQueries vs k temps old st pc w b d post = post.by (pc + 1) w b d
  platform_at a P.LimitQueryRows vs k temps old st pc w b d post = post.by (pc + 1) w b d
  platform_at a P.LimitDmlStatements vs k temps old st pc w b d post = post.by (pc + 1) w b d
  platform_at a P.LimitDmlRows vs k temps old st pc w b d post = post.by (pc + 1) w b d
  platform_at a m vs k temps old st pc w b d post = (0, ap Some (post a.below.saved w b.alike))

  on_collection_at : (a : Around) (which : Which) (vs : List Value) (k : List Instr) (temps old : List Value) (st : State) (pc : ℕ) (w : TxnState) → Stands a.below st w → drop (pc + 1) (Sim.code image a) ≡ k → Follow site image r a k temps (on_collection which (first_of vs) (rest_of vs) st) →
      Sim.Comes site image r (M.collection which (first_of vs) (rest_of vs) (config a pc old st w) (λ v d. next d (v ∷ temps))) (config a pc old st w) st.world.txn.tape
  on_collection_at a which vs k temps old st pc w b d post =
      collection_at site image r a which (first_of vs) (rest_of vs) pc old st w _ (config a pc old st w) b (onward site image r a pc k temps old (config a pc old st w) (on_collection which (first_of vs) (rest_of vs) st) d post)

  builtin_by : (a : Around) (which : Which) (vs : List Value) (k : List Instr) (temps old : List Value) (st : State) (pc : ℕ) (w : TxnState) → Stands a.below st w → drop (pc + 1) (Sim.code image a) ≡ k → Follow site image r a k temps (called_builtin setting.program setting.ticket which vs st) →
      Sim.Comes site image r (M.builtin_next setting.ticket image which vs (config a pc old st w) temps) (config a pc old st w) st.world.txn.tape
  builtin_by a (B.List m) vs k temps old st pc w b d post = on_collection_at a (B.List m) vs k temps old st pc w b d post
  builtin_by a (B.Set m) vs k temps old st pc w b d post = on_collection_at a (B.Set m) vs k temps old st pc w b d post
  builtin_by a (B.Map m) vs k temps old st pc w b d post = on_collection_at a (B.Map m) vs k temps old st pc w b d post
  builtin_by a B.Join vs k temps old st pc w b d post = on_collection_at a B.Join vs k temps old st pc w b d post
  builtin_by a (B.Platform m) vs k temps old st pc w b d post = platform_at a m vs k temps old st pc w b d post
  builtin_by a which vs k temps old st pc w b d post = cells_at site image r a which (map cell_in vs) k temps old st pc w b d post

  pub builtin_at : (a : Around) (which : Which) (n : ℕ) (vs : List Value) (k : List Instr) (temps : List Value) (st : State) → length vs ≡ n → Follow site image r a k temps (called_builtin setting.program setting.ticket which vs st) → Sim.At site image r a (I.Builtin which n ∷ k) (pushed vs temps) st
  builtin_at a which n vs k temps st e post =
      Sim.first site image r a (I.Builtin which n) k (pushed vs temps) st (λ pc w b d. taken_comes site image r n vs temps (λ xs rest. M.builtin_next setting.ticket image which xs (config a pc (pushed vs temps) st w) rest) (config a pc (pushed vs temps) st w) st.world.txn.tape e (builtin_by a which vs k temps (pushed vs temps) st pc w b d post))

  -- ---- debug lines

  pub print_at : (again : Again) (texts : List (List ℕ)) → image.names ≡ texts → Sim.Takes site image r (say setting again texts) (I.Print ∷ [])
  print_at again texts named a v k temps st post =
      Sim.first site image r a I.Print k (v ∷ temps) st (λ pc w b d.
      Sim.comes_as site image r _ (line texts (config a pc (v ∷ temps) st w)) _ _ (ap (λ ns. line ns (config a pc (v ∷ temps) st w)) named)
      (Sim.charge_then site image r a.below K.Alloc (16 + length (text_of setting.schema texts st.world.heap v)) st w (config a pc (v ∷ temps) st w) _ (config a pc (v ∷ temps) st w) st.world.txn.tape _ (Sim.Stopped site image r a) b (λ f h. h)
      (bound (λ x s. Sim.At site image r a k (x ∷ temps) s) (Sim.Stopped site image r a) (charge K.Alloc (16 + length (text_of setting.schema texts st.world.heap v)) st) (λ u s. Gives null (with_line (text_of setting.schema texts st.world.heap v) s)) post)
      (λ x h. h.by (pc + 1) _ x d)))
    where
      line : List (List ℕ) → Config → Next
      line ns c = charged K.Alloc (16 + length (text_of setting.schema ns c.world.heap v)) c (λ d. next (Machine.with_line d (text_of setting.schema ns d.world.heap v)) (null ∷ temps))
