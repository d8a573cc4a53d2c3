-- What calls and new instances come to.
use Rattle.std.proofs.Common.{◌≡◌, ℕ, zero, suc, ◌+◌, ◌*◌, Bool, true, false, List, [], ◌∷◌, ◌++◌, drop, length, replicate, slice_get, Option, None, Some, option_map, refl, ap, ◌∙◌, subst}
use Rattle.request_states.specs.Runs.{Setting, site_of}
use Rattle.request_states.specs.States.{State, Res, charge, make}
use Rattle.request_states.specs.Values.{null}
use Rattle.apex_num.specs.declared.cell.Cell.TheVariants as C
use Rattle.apex_num.specs.declared.kind.LimitKind.TheVariants.{Alloc}
use Rattle.apex_meaning.specs.Classes.{chain, instance_fields, own_starts, target, width}
use Rattle.apex_meaning.specs.Exceptions.{Kind, Declared, BuiltIn, Nothing, kind_of_thing}
use Rattle.apex_meaning.specs.Expressions as E
use Rattle.apex_meaning.specs.Meanings.{Again, Body, Method, Constructor, Run, all_of, called, dropped}
use Rattle.apex_meaning.specs.Preparing.{constructed, new_instance, prepared, set_message, started}
use Rattle.save_meaning.proofs.Holding.{bind_bind, bound, weaken, weaken_end}
use Rattle.save_meaning.specs.Results.{Gives, Stops, bind, Holds}
use Rattle.save_meaning.specs.declared.run.TxnState.{TxnState}
use Rattle.tenant_trails.specs.Runs as Trail
use Rattle.txn_heap.specs.declared.thing.Thing.{Thing}
use Rattle.txn_heap.specs.declared.thing.Thing.TheVariants as T
use Rattle.txn_heap.specs.declared.thing.Value.{Value}
use Rattle.txn_heap.specs.declared.thing.Value.TheVariants.{Plain, Object}
use Rattle.typed_program.specs.declared.expr.Constructor.{Constructor as How}
use Rattle.typed_program.specs.declared.expr.Constructor.TheVariants as K
use Rattle.stack_code.specs.Calls as Calls
use Rattle.stack_code.specs.Code.{call_code, joined, new_code, starts_code}
use Rattle.stack_code.specs.Images.{method_at as place_of}
use Rattle.stack_code.specs.Machine as Machine
use Rattle.stack_code.specs.Machine.{Next, on_top}
use Rattle.stack_code.specs.Things as M
use Rattle.stack_code.specs.declared.code.Instr.{Instr}
use Rattle.stack_code.specs.declared.code.Instr.TheVariants as I
use Rattle.stack_code.specs.declared.image.Image.{Image}
use Rattle.stack_code.specs.declared.state.After.TheVariants as A
use Rattle.stack_code.specs.declared.state.BodyAt.TheVariants as B
use Rattle.stack_code.specs.declared.state.Config.{Config}
use Rattle.program_simulation.proofs.Classes.{IsImage}
use Rattle.program_simulation.proofs.Frames as F
use Rattle.program_simulation.proofs.Frames.{ground, at_body}
use Rattle.program_simulation.proofs.OfLists.{pushed, taken_comes, AllPut, all_at}
use Rattle.program_simulation.proofs.OfValues.{Follow}
use Rattle.program_simulation.proofs.Preparing.{begin_at, prepared_at}
use Rattle.program_simulation.proofs.Simulates as Sim
use Rattle.program_simulation.proofs.Simulates.{Around, Stands, config}

module _ (setting : Setting) (image : Image) (r : Trail.Run) (is : IsImage setting.program image) (again : Again) (follows : F.Follows (site_of setting) image r again) where
  abbrev At : Around → List Instr → List Value → State → Type 0
  At a k temps st = Sim.At (site_of setting) image r a k temps st

  abbrev Fol : Around → List Instr → List Value → Res Value → Type 0
  Fol a k temps res = Follow (site_of setting) image r a k temps res

  abbrev Comes : Config → State → Next → Type 0
  Comes c st x = Sim.Comes (site_of setting) image r x c st.world.txn.tape

  -- ---- arguments, and what takes them

  pub with_args : (fs : List Run) (cs : List (List Instr)) → AllPut (site_of setting) image r fs cs → (go : List Value → Run) (code : List Instr) →
      ((args : List Value) (a : Around) (k : List Instr) (temps : List Value) (s : State) → length args ≡ length cs → Fol a k temps (go args s) → At a (code ++ k) (pushed args temps) s) →
      Sim.Puts (site_of setting) image r (λ st. bind (all_of fs st) go) (joined cs ++ code)
  with_args fs cs h go code then a k temps st post =
      Sim.again_at (site_of setting) image r a (joined cs) code k temps st
      (all_at (site_of setting) image r fs cs h a (code ++ k) temps st
      (weaken _ _ (Sim.Stopped (site_of setting) image r a) (all_of fs st) (λ args s g n. then args a k temps s n g)
      (bound (λ v s. At a k (v ∷ temps) s) (Sim.Stopped (site_of setting) image r a) (all_of fs st) go post)))

  -- over a value that lies under them
  pub with_args_on : (fs : List Run) (cs : List (List Instr)) → AllPut (site_of setting) image r fs cs → (go : List Value → Value → Run) (code : List Instr) →
      ((args : List Value) (v : Value) (a : Around) (k : List Instr) (temps : List Value) (s : State) → length args ≡ length cs → Fol a k temps (go args v s) → At a (code ++ k) (pushed args (v ∷ temps)) s) →
      Sim.Takes (site_of setting) image r (λ v st. bind (all_of fs st) (λ args s. go args v s)) (joined cs ++ code)
  with_args_on fs cs h go code then a v k temps st post =
      Sim.again_at (site_of setting) image r a (joined cs) code k (v ∷ temps) st
      (all_at (site_of setting) image r fs cs h a (code ++ k) (v ∷ temps) st
      (weaken _ _ (Sim.Stopped (site_of setting) image r a) (all_of fs st) (λ args s g n. then args v a k temps s n g)
      (bound (λ x s. At a k (x ∷ temps) s) (Sim.Stopped (site_of setting) image r a) (all_of fs st) (λ args s. go args v s) post)))

  -- ---- calls

  -- a declared method is called behind an instruction
  called_here : (b : Body) (args : List Value) (this : Value) (a : Around) (pc : ℕ) (k : List Instr) (temps : List Value) (st : State) (w : TxnState) (c : Config) → Stands a.below st w → drop (pc + 1) (Sim.code image a) ≡ k → Fol a k temps (called (again.body b args this) st) →
      Comes c st (Calls.call image (at_body b) args this A.Answered st.here (config a (pc + 1) temps st w))
  called_here b args this a pc k temps st w c s d post =
      F.called_at (site_of setting) image r again follows b args this A.Answered (ground a (pc + 1) temps st.here) st w c refl (λ x. refl) s
      (weaken _ _ _ (called (again.body b args this) st) (λ v s1 h e. F.at_ready (site_of setting) image r a (pc + 1) k (v ∷ temps) st.here s1 d h e)
      (weaken_end _ _ _ (called (again.body b args this) st) (λ why s1 h e. F.stopped_gone (site_of setting) image r a (pc + 1) temps st.here why s1 h e) post))

  pub call_static_at : (c m n : ℕ) (args : List Value) (a : Around) (k : List Instr) (temps : List Value) (st : State) → length args ≡ n → Fol a k temps (E.call_static setting again c m args st) → At a (I.Prepare c ∷ I.CallStatic c m n ∷ k) (pushed args temps) st
  call_static_at c m n args a k temps st e post =
      prepared_at setting image r is again follows c a (I.CallStatic c m n ∷ k) (pushed args temps) st
      (weaken _ _ (Sim.Stopped (site_of setting) image r a) (prepared setting.program again c st)
      (λ u s h. Sim.first (site_of setting) image r a (I.CallStatic c m n) k (pushed args temps) s (λ pc w b d.
      taken_comes (site_of setting) image r n args temps (λ xs rest. Calls.call image (B.Method c m) xs null A.Answered s.here (config a (pc + 1) rest s w)) (config a pc (pushed args temps) s w) s.world.txn.tape e
      (called_here (Method c m) args null a pc k temps s w (config a pc (pushed args temps) s w) b d h)))
      (bound (λ v s. At a k (v ∷ temps) s) (Sim.Stopped (site_of setting) image r a) (prepared setting.program again c st) (λ u s. called (again.body (Method c m) args null) s) post))

  found_by : (o : Option (ℕ × ℕ)) (args : List Value) (this : Value) (a : Around) (pc : ℕ) (k : List Instr) (temps : List Value) (st : State) (w : TxnState) (c : Config) → Stands a.below st w → drop (pc + 1) (Sim.code image a) ≡ k → Fol a k temps (E.call_found setting again o args this st) →
      Comes c st (Calls.call_found image (option_map place_of o) args this (config a (pc + 1) temps st w))
  found_by None args this a pc k temps st w c b d post = post.by (pc + 1) [] w b
  found_by (Some at) args this a pc k temps st w c b d post = called_here (Method at.0 at.1) args this a pc k temps st w c b d post

  kind_by : (x m : ℕ) (o : Kind) (args : List Value) (this : Value) (a : Around) (pc : ℕ) (k : List Instr) (temps : List Value) (st : State) (w : TxnState) (c : Config) → Stands a.below st w → drop (pc + 1) (Sim.code image a) ≡ k → Fol a k temps (E.call_by_kind setting again x m o args this st) →
      Comes c st (Calls.call_by_kind image x m o args this (config a (pc + 1) temps st w))
  kind_by x m (Declared own) args this a pc k temps st w c b d post =
      Sim.comes_as (site_of setting) image r _ (Calls.call_found image (option_map place_of (target setting.program own x m)) args this (config a (pc + 1) temps st w)) c st.world.txn.tape
      (ap (λ o. Calls.call_found image o args this (config a (pc + 1) temps st w)) (is.target own x m))
      (found_by (target setting.program own x m) args this a pc k temps st w c b d post)
  kind_by x m (BuiltIn y) args this a pc k temps st w c b d post = post.by (pc + 1) [] w b
  kind_by x m Nothing args this a pc k temps st w c b d post = post.by (pc + 1) [] w b

  -- a method of an instance; a null one throws
  virtual_by : (x m : ℕ) (v : Value) (args : List Value) (a : Around) (pc : ℕ) (k : List Instr) (temps : List Value) (st : State) (w : TxnState) (c : Config) → Stands a.below st w → drop (pc + 1) (Sim.code image a) ≡ k → Fol a k temps (E.call_on setting again x m true args v st) →
      Comes c st (Calls.call_on image x m args v (config a (pc + 1) temps st w))
  virtual_by x m (Plain cell) args a pc k temps st w c b d post = post.by (pc + 1) [] w b
  virtual_by x m (Object ref) args a pc k temps st w c b d post = kind_by x m (kind_of_thing (slice_get st.world.heap ref.place)) args (Object ref) a pc k temps st w c b d post

  own_by : (x m : ℕ) (v : Value) (args : List Value) (a : Around) (pc : ℕ) (k : List Instr) (temps : List Value) (st : State) (w : TxnState) (c : Config) → Stands a.below st w → drop (pc + 1) (Sim.code image a) ≡ k → Fol a k temps (E.call_on setting again x m false args v st) →
      Comes c st (Calls.call_this image x m args v (config a (pc + 1) temps st w))
  own_by x m (Plain cell) args a pc k temps st w c b d post = post.by (pc + 1) [] w b
  own_by x m (Object ref) args a pc k temps st w c b d post = called_here (Method x m) args (Object ref) a pc k temps st w c b d post

  pub call_at : (x m : ℕ) (virtual : Bool) (n : ℕ) (args : List Value) (v : Value) (a : Around) (k : List Instr) (temps : List Value) (st : State) → length args ≡ n → Fol a k temps (E.call_on setting again x m virtual args v st) → At a (call_code virtual x m n ∷ k) (pushed args (v ∷ temps)) st
  call_at x m true n args v a k temps st e post =
      Sim.first (site_of setting) image r a (I.Call x m n) k (pushed args (v ∷ temps)) st (λ pc w b d.
      taken_comes (site_of setting) image r n args (v ∷ temps) (λ xs rest. on_top rest (λ this stack. Calls.call_on image x m xs this (config a (pc + 1) stack st w))) (config a pc (pushed args (v ∷ temps)) st w) st.world.txn.tape e
      (virtual_by x m v args a pc k temps st w (config a pc (pushed args (v ∷ temps)) st w) b d post))
  call_at x m false n args v a k temps st e post =
      Sim.first (site_of setting) image r a (I.CallThis x m n) k (pushed args (v ∷ temps)) st (λ pc w b d.
      taken_comes (site_of setting) image r n args (v ∷ temps) (λ xs rest. on_top rest (λ this stack. Calls.call_this image x m xs this (config a (pc + 1) stack st w))) (config a pc (pushed args (v ∷ temps)) st w) st.world.txn.tape e
      (own_by x m v args a pc k temps st w (config a pc (pushed args (v ∷ temps)) st w) b d post))

  -- ---- new instances

  abbrev units : ℕ → ℕ
  units c = 32 + 16 * instance_fields setting.program (chain setting.program c)

  abbrev with_places : ℕ → ℕ → Thing
  with_places c n = T.Instance (record { class = c; message = C.Null; fields = replicate n null })

  abbrev fresh : ℕ → Thing
  fresh c = with_places c (width setting.program (chain setting.program c))

  abbrev made_with : ℕ → Thing → List Value → Config → (Value → Config → Next) → Next
  made_with n thing stack c go =
      Machine.charged Alloc n c (λ d. go (Object (record { place = length d.world.heap })) (Machine.with_heap (Machine.move d (d.top.pc + 1) (Object (record { place = length d.world.heap }) ∷ stack)) (d.world.heap ++ thing ∷ [])))

  -- an instance is charged and made, and then this goes on
  made_by : (c : ℕ) (a : Around) (pc : ℕ) (old stack : List Value) (st : State) (w : TxnState) (go : Value → Config → Next) (x : Config) (ok : Value → State → Type 0) (rest : Value → State → Res Value) → Stands a.below st w →
      Holds ok (Sim.Stopped (site_of setting) image r a) (bind (charge Alloc (units c) st) (λ u s. bind (make (fresh c) s) rest)) →
      ((this : Value) (s : State) (v : TxnState) → Stands a.below s v → Holds ok (Sim.Stopped (site_of setting) image r a) (rest this s) → Comes x s (go this (config a (pc + 1) (this ∷ stack) s v))) →
      Comes x st (Calls.made image c stack (config a pc old st w) go)
  made_by c a pc old stack st w go x ok rest b post then =
      Sim.comes_as (site_of setting) image r _ (made_with (units c) (fresh c) stack (config a pc old st w) go) x st.world.txn.tape
      (ap (λ n. made_with n (Calls.instance_of image c) stack (config a pc old st w) go) (is.units c) ∙ ap (λ n. made_with (units c) (with_places c n) stack (config a pc old st w) go) (is.width c))
      (Sim.charge_then (site_of setting) image r a.below Alloc (units c) st w (config a pc old st w) _ x st.world.txn.tape _ (Sim.Stopped (site_of setting) image r a) b (λ f h. h)
      (bound ok (Sim.Stopped (site_of setting) image r a) (charge Alloc (units c) st) (λ u s. bind (make (fresh c) s) rest) post)
      (λ y h. then _ _ _ y h))

  -- a declared constructor runs on it
  declared_at : (c k1 n : ℕ) (args : List Value) (a : Around) (k : List Instr) (temps : List Value) (st : State) → length args ≡ n →
      Fol a k temps (bind (charge Alloc (units c) st) (λ u s. bind (make (fresh c) s) (λ this s1. bind (dropped (called (again.body (Constructor c k1) args this) s1)) (λ u1 s2. Gives this s2)))) → At a (I.New c k1 n ∷ k) (pushed args temps) st
  declared_at c k1 n args a k temps st e post =
      Sim.first (site_of setting) image r a (I.New c k1 n) k (pushed args temps) st (λ pc w b d.
      taken_comes (site_of setting) image r n args temps (λ xs rest. Calls.new_next image c k1 xs rest (config a pc (pushed args temps) st w)) (config a pc (pushed args temps) st w) st.world.txn.tape e
      (made_by c a pc (pushed args temps) temps st w (λ x d1. Calls.call image (B.Constructor c k1) args x A.Constructed d1.top.here d1) (config a pc (pushed args temps) st w) (λ v s. At a k (v ∷ temps) s) (λ this s1. bind (dropped (called (again.body (Constructor c k1) args this) s1)) (λ u1 s2. Gives this s2)) b post
      (λ this s v y h. F.called_at (site_of setting) image r again follows (Constructor c k1) args this A.Constructed (ground a (pc + 1) (this ∷ temps) s.here) s v (config a pc (pushed args temps) st w) refl (λ z. refl) y (ran pc d this s (called (again.body (Constructor c k1) args this) s) h))))
    where
      ran : (pc : ℕ) → drop (pc + 1) (Sim.code image a) ≡ k → (this : Value) (s : State) (res : Res Value) → Fol a k temps (bind (dropped res) (λ u s2. Gives this s2)) →
          Holds (λ v s2. s2.here ≡ s.here → F.Ready (site_of setting) image r (F.resumed (ground a (pc + 1) (this ∷ temps) s.here) A.Constructed v) s2) (λ why s2. s2.here ≡ s.here → F.Gone (site_of setting) image r (ground a (pc + 1) (this ∷ temps) s.here) A.Begun why s2) res
      ran pc d this s (Gives v s2) h = λ q. F.at_ready (site_of setting) image r a (pc + 1) k (this ∷ temps) s.here s2 d h q
      ran pc d this s (Stops why s2) h = λ q. F.stopped_gone (site_of setting) image r a (pc + 1) (this ∷ temps) s.here why s2 h q

  -- what a constructor that isn't written runs, and then this
  plain_at : (c : ℕ) (a : Around) (k : List Instr) (temps : List Value) (st : State) (ok : Value → State → Type 0) (rest last : Value → State → Res Value) →
      ((this : Value) (s : State) → rest this s ≡ bind (started setting.program again this (own_starts setting.program c) s) (λ u s1. last this s1)) →
      ((this : Value) (s : State) → Holds ok (Sim.Stopped (site_of setting) image r a) (last this s) → At a k (this ∷ temps) s) →
      Holds ok (Sim.Stopped (site_of setting) image r a) (bind (charge Alloc (units c) st) (λ u s. bind (make (fresh c) s) rest)) → At a (I.NewPlain c ∷ k) temps st
  plain_at c a k temps st ok rest last same then post =
      Sim.first (site_of setting) image r a (I.NewPlain c) k temps st (λ pc w b d.
      made_by c a pc temps temps st w (λ x d1. Calls.begin image (Calls.starts_or c (Machine.class_code image c)) x d1) (config a pc temps st w) ok rest b post (λ this s v y h.
      Sim.comes_as (site_of setting) image r _ (Calls.begin image (starts_code setting.program (own_starts setting.program c)) this (config a (pc + 1) (this ∷ temps) s v)) (config a pc temps st w) s.world.txn.tape
      (ap (λ ss. Calls.begin image ss this (config a (pc + 1) (this ∷ temps) s v)) (is.starts c))
      (begin_at setting image r is again follows (own_starts setting.program c) this (ground a (pc + 1) (this ∷ temps) s.here) s v (config a pc temps st w) refl y
      (weaken _ _ _ (started setting.program again this (own_starts setting.program c) s) (λ u s1 g q. F.at_ready (site_of setting) image r a (pc + 1) k (this ∷ temps) s.here s1 d (then this s1 g) q)
      (weaken_end _ _ _ (started setting.program again this (own_starts setting.program c) s) (λ why s1 g q. F.stopped_gone (site_of setting) image r a (pc + 1) (this ∷ temps) s.here why s1 g q)
      (bound ok (Sim.Stopped (site_of setting) image r a) (started setting.program again this (own_starts setting.program c) s) (λ u s1. last this s1) (subst (λ res. Holds ok (Sim.Stopped (site_of setting) image r a) res) (same this s) h)))))))

  -- arguments that nothing takes
  pop_last : (n : ℕ) (k : List Instr) → replicate (suc n) I.Pop ++ k ≡ replicate n I.Pop ++ I.Pop ∷ k
  pop_last zero k = refl
  pop_last (suc n) k = ap (λ l. I.Pop ∷ l) (pop_last n k)

  pops_at : (args : List Value) (a : Around) (k : List Instr) (temps : List Value) (st : State) → At a k temps st → At a (replicate (length args) I.Pop ++ k) (pushed args temps) st
  pops_at [] a k temps st h = h
  pops_at (v ∷ vs) a k temps st h =
      Sim.at_same (site_of setting) image r a _ _ (pushed vs (v ∷ temps)) st (pop_last (length vs) k) (pops_at vs a (I.Pop ∷ k) (v ∷ temps) st (Sim.pop_at (site_of setting) image r a v k temps st h))

  -- the message of an exception
  message_at : (n : ℕ) (args : List Value) (this : Value) (a : Around) (k : List Instr) (temps : List Value) (st : State) → length args ≡ n → At a k (this ∷ temps) (set_message this args st) → At a (I.Message n ∷ k) (this ∷ pushed args temps) st
  message_at n args this a k temps st e post =
      Sim.first (site_of setting) image r a (I.Message n) k (this ∷ pushed args temps) st (λ pc w b d.
      taken_comes (site_of setting) image r n args temps (λ vs stack. Machine.next (M.set_message this vs (config a pc (this ∷ pushed args temps) st w)) (this ∷ stack)) (config a pc (this ∷ pushed args temps) st w) st.world.txn.tape e
      (by pc w b d this args post))
    where
      by : (pc : ℕ) (w : TxnState) → Stands a.below st w → drop (pc + 1) (Sim.code image a) ≡ k → (x : Value) (vs : List Value) → At a k (this ∷ temps) (set_message x vs st) →
          Comes (config a pc (this ∷ pushed args temps) st w) st (Machine.next (M.set_message x vs (config a pc (this ∷ pushed args temps) st w)) (this ∷ temps))
      by pc w b d (Plain cell) vs h = h.by (pc + 1) w b d
      by pc w b d (Object ref) [] h = h.by (pc + 1) w b d
      by pc w b d (Object ref) (Plain m ∷ vs) h = h.by (pc + 1) w b d
      by pc w b d (Object ref) (Object q ∷ vs) h = h.by (pc + 1) w b d

  -- behind its preparation
  made_at : (c : ℕ) (how : How) (args : List Value) (code : List Instr) → ((a : Around) (k : List Instr) (temps : List Value) (s : State) →
      Fol a k temps (bind (charge Alloc (units c) s) (λ u1 s1. bind (make (fresh c) s1) (λ this s2. bind (constructed setting.program again c how args this s2) (λ u2 s3. Gives this s3)))) → At a (code ++ k) (pushed args temps) s) →
      (a : Around) (k : List Instr) (temps : List Value) (st : State) → Fol a k temps (new_instance setting.program again c how args st) → At a (I.Prepare c ∷ (code ++ k)) (pushed args temps) st
  made_at c how args code then a k temps st post =
      prepared_at setting image r is again follows c a (code ++ k) (pushed args temps) st
      (weaken _ _ (Sim.Stopped (site_of setting) image r a) (prepared setting.program again c st) (λ u s h. then a k temps s h)
      (bound (λ v s. At a k (v ∷ temps) s) (Sim.Stopped (site_of setting) image r a) (prepared setting.program again c st)
      (λ u s. bind (charge Alloc (units c) s) (λ u1 s1. bind (make (fresh c) s1) (λ this s2. bind (constructed setting.program again c how args this s2) (λ u2 s3. Gives this s3)))) post))

  pub new_at : (c : ℕ) (how : How) (n : ℕ) (args : List Value) (a : Around) (k : List Instr) (temps : List Value) (st : State) → length args ≡ n → Fol a k temps (new_instance setting.program again c how args st) → At a (new_code c how n ++ k) (pushed args temps) st
  new_at c (K.Declared k1) n args a k temps st e post =
      made_at c (K.Declared k1) args (I.New c k1 n ∷ []) (λ a k temps s h. declared_at c k1 n args a k temps s e h) a k temps st post
  new_at c K.Implied n args a k temps st e post =
      made_at c K.Implied args (replicate n I.Pop ++ I.NewPlain c ∷ []) (λ a k temps s h.
      Sim.again_at (site_of setting) image r a (replicate n I.Pop) (I.NewPlain c ∷ []) k (pushed args temps) s
      (subst (λ m. At a (replicate m I.Pop ++ I.NewPlain c ∷ k) (pushed args temps) s) e
      (pops_at args a (I.NewPlain c ∷ k) temps s
      (plain_at c a k temps s (λ v s1. At a k (v ∷ temps) s1) (λ this s1. bind (started setting.program again this (own_starts setting.program c) s1) (λ u s2. Gives this s2)) (λ this s1. Gives this s1) (λ this s1. refl) (λ this s1 g. g) h)))) a k temps st post
  new_at c K.Exception n args a k temps st e post =
      made_at c K.Exception args (I.NewPlain c ∷ I.Message n ∷ []) (λ a k temps s h.
      plain_at c a (I.Message n ∷ k) (pushed args temps) s (λ v s1. At a k (v ∷ temps) s1)
      (λ this s1. bind (bind (started setting.program again this (own_starts setting.program c) s1) (λ u s2. Gives tt (set_message this args s2))) (λ u2 s3. Gives this s3))
      (λ this s1. Gives this (set_message this args s1))
      (λ this s1. bind_bind (started setting.program again this (own_starts setting.program c) s1) (λ u s2. Gives tt (set_message this args s2)) (λ u2 s3. Gives this s3))
      (λ this s1 g. message_at n args this a k temps s1 e g) h) a k temps st post
