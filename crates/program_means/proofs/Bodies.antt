-- The code of the bodies of classes does what they do.
use Rattle.std.proofs.Common.{◌≡◌, ℕ, zero, suc, ◌+◌, Bool, true, false, List, [], ◌∷◌, ◌++◌, length, drop, map, replicate, Option, None, Some, refl, sym, ap, ◌∙◌, subst, append_assoc}
use Rattle.std.specs.Prelude.{slice_get}
use Rattle.std.proofs.lemmas.List.{length-map}
use Rattle.activations.specs.declared.abrupt.Abrupt.{Abrupt}
use Rattle.activations.specs.declared.here.Here.{Here}
use Rattle.request_states.specs.Runs.{Setting, site_of}
use Rattle.request_states.specs.States.{State, Res, charge}
use Rattle.apex_num.specs.declared.kind.LimitKind.TheVariants as K
use Rattle.apex_meaning.specs.Bodies as D
use Rattle.apex_meaning.specs.Classes.{code_of, constructor_at, trigger_at, fields_at, field_place, no_starts, and_fields, own_starts, starts, Starts}
use Rattle.apex_meaning.specs.Expressions.{value_of}
use Rattle.apex_meaning.specs.Meanings.{Again, Body, Method, Constructor, Fields, Statics, Trigger, Do, called, dropped}
use Rattle.apex_meaning.specs.Places as Places
use Rattle.apex_meaning.specs.Preparing.{constructed, set_message, started, with_statics}
use Rattle.apex_meaning.specs.Statements.{does_all}
use Rattle.save_meaning.specs.Results.{Gives, Stops, Stop, bind, Holds}
use Rattle.save_meaning.specs.Sites.{Site}
use Rattle.save_meaning.specs.declared.run.TxnState.{TxnState}
use Rattle.save_meaning.proofs.Holding.{bound, weaken, weaken_end}
use Rattle.tenant_trails.specs.Runs as Trail
use Rattle.txn_heap.specs.Statics.{with_static}
use Rattle.txn_heap.specs.declared.thing.Thing.{Thing}
use Rattle.txn_heap.specs.declared.thing.Value.{Value}
use Rattle.txn_heap.specs.declared.thing.Value.TheVariants.{Plain, Object}
use Rattle.typed_program.specs.declared.expr.Constructor.{Constructor as Which}
use Rattle.typed_program.specs.declared.expr.Constructor.TheVariants as C
use Rattle.typed_program.specs.declared.expr.TypedExpr.{TypedExpr}
use Rattle.typed_program.specs.declared.program.Program.{Program}
use Rattle.typed_program.specs.declared.stmt.TypedStmt.{TypedStmt}
use Rattle.typed_program.specs.declared.unit.ParentCall.{ParentCall}
use Rattle.typed_program.specs.declared.unit.ParentCall.TheVariants as P
use Rattle.typed_program.specs.declared.unit.TypedConstructor.{TypedConstructor}
use Rattle.typed_program.specs.declared.unit.TypedField.{TypedField}
use Rattle.stack_code.specs.Calls as Calls
use Rattle.stack_code.specs.Code as Code
use Rattle.stack_code.specs.Code.{Instrs}
use Rattle.stack_code.specs.Machine.{instrs_at, next}
use Rattle.stack_code.specs.Things as Things
use Rattle.stack_code.specs.declared.code.Instr.{Instr}
use Rattle.stack_code.specs.declared.code.Instr.TheVariants as I
use Rattle.stack_code.specs.declared.image.Image.{Image}
use Rattle.stack_code.specs.declared.state.After.TheVariants as A
use Rattle.stack_code.specs.declared.state.BodyAt.TheVariants as B
use Rattle.program_means.proofs.Begins as Begins
use Rattle.program_means.proofs.Statements.{stmts_at, value_then, does_then, step_then}
use Rattle.program_simulation.proofs.Classes.{IsImage, constructed_code}
use Rattle.program_simulation.proofs.Frames.{Ground, ground, standing, Ready, Gone, Follows, called_at, resumed}
use Rattle.program_simulation.proofs.OfLists as OfLists
use Rattle.program_simulation.proofs.OfLists.{pushed}
use Rattle.program_simulation.proofs.Simulates as T
use Rattle.program_simulation.proofs.Simulates.{Around, config, Stands}

-- ---- operands that are dropped

replicate_last : {A : Type 0} (n : ℕ) (x : A) (k : List A) → replicate (suc n) x ++ k ≡ replicate n x ++ x ∷ k
replicate_last zero x k = refl
replicate_last (suc n) x k = ap (λ l. x ∷ l) (replicate_last n x k)

module _ (setting : Setting) (image : Image) (r : Trail.Run) (is : IsImage setting.program image) (again : Again) (names : List (List ℕ)) (follows : Follows (site_of setting) image r again)
    (values : (e : TypedExpr) → T.Puts (site_of setting) image r (value_of setting again names e) (Code.expr_code setting.program e)) where
  abbrev program : Program
  program = setting.program

  abbrev site : Site
  site = site_of setting

  abbrev At : Around → Instrs → List Value → State → Type 0
  At a k temps st = T.At site image r a k temps st

  abbrev Stopped : Around → Stop Abrupt → State → Type 0
  Stopped a why st = T.Stopped site image r a why st

  abbrev DoesSo : Do → Instrs → Type 0
  DoesSo f is = T.Does site image r f is

  pops_at : (a : Around) (vs : List Value) (k : Instrs) (temps : List Value) (st : State) → At a k temps st → At a (replicate (length vs) I.Pop ++ k) (pushed vs temps) st
  pops_at a [] k temps st post = post
  pops_at a (v ∷ vs) k temps st post =
      T.at_same site image r a (replicate (length (v ∷ vs)) I.Pop ++ k) (replicate (length vs) I.Pop ++ I.Pop ∷ k) (pushed vs (v ∷ temps)) st (replicate_last (length vs) I.Pop k)
      (pops_at a vs (I.Pop ∷ k) (v ∷ temps) st (T.pop_at site image r a v k temps st post))

  -- ---- initial values

  set_own_at : (place : ℕ) (v : Value) (a : Around) (k : Instrs) (st : State) → Holds (λ u s. At a k [] s) (Stopped a) (Places.set_field place st.here.this v st) → At a (I.SetOwn place ∷ k) (v ∷ []) st
  set_own_at place v a k st post = T.first site image r a (I.SetOwn place) k (v ∷ []) st (λ pc w b d. by_value pc w b d st.here.this post) where
    by_thing : (pc : ℕ) (w : TxnState) → Stands a.below st w → drop (pc + 1) (instrs_at image a.body) ≡ k → (at : ℕ) (o : Option Thing) → Holds (λ u s. At a k [] s) (Stopped a) (Places.set_in_thing place v at o st) →
        T.Comes site image r (Things.set_in_thing place v at o (config a pc (v ∷ []) st w) (λ d. next d [])) (config a pc (v ∷ []) st w) st.world.txn.tape
    by_thing pc w b d at (Some (Thing.Instance i)) h = h.by (pc + 1) w b d
    by_thing pc w b d at _ h = h.by pc [] w b

    by_value : (pc : ℕ) (w : TxnState) → Stands a.below st w → drop (pc + 1) (instrs_at image a.body) ≡ k → (this : Value) → Holds (λ u s. At a k [] s) (Stopped a) (Places.set_field place this v st) →
        T.Comes site image r (Things.field_stored place this v (config a pc (v ∷ []) st w) (λ d. next d [])) (config a pc (v ∷ []) st w) st.world.txn.tape
    by_value pc w b d (Plain c) h = h.by pc [] w b
    by_value pc w b d (Object x) h = by_thing pc w b d x.place (slice_get st.world.heap x.place) h

  field_does : (c n : ℕ) (b : Bool) (o : Option TypedExpr) → DoesSo (D.initial_field setting again names c n b o) (Code.field_code program c n b o)
  field_does c n false (Some e) =
      value_then site image r (value_of setting again names e) (λ v s. Places.set_field (field_place program c n) s.here.this v s) (Code.expr_code program e) (I.SetOwn (field_place program c n) ∷ []) (values e)
      (λ v a k s h. set_own_at (field_place program c n) v a k s h)
  field_does c n false None = λ a k st post. post
  field_does c n true (Some e) = λ a k st post. post
  field_does c n true None = λ a k st post. post

  fields_does : (c n : ℕ) (fs : List TypedField) → DoesSo (D.initial_fields setting again names c n fs) (Code.fields_code program c n fs)
  fields_does c n [] a k st post = post
  fields_does c n (f ∷ fs) a k st post =
      does_then site image r (D.initial_field setting again names c n f.is_static f.value) (D.initial_fields setting again names c (suc n) fs) (Code.field_code program c n f.is_static f.value) (Code.fields_code program c (suc n) fs)
      (field_does c n f.is_static f.value) (fields_does c (suc n) fs) a k st post

  set_static_at : (c n : ℕ) (v : Value) (a : Around) (k : Instrs) (st : State) → At a k [] (with_statics (with_static c n v st.world.statics) st) → At a (I.SetStatic c n ∷ k) (v ∷ []) st
  set_static_at c n v a k st post = T.first site image r a (I.SetStatic c n) k (v ∷ []) st (λ pc w b d. post.by (pc + 1) w b d)

  static_does : (c n : ℕ) (b : Bool) (o : Option TypedExpr) → DoesSo (D.initial_static setting again names c n b o) (Code.static_code program c n b o)
  static_does c n true (Some e) =
      value_then site image r (value_of setting again names e) (λ v s. Gives tt (with_statics (with_static c n v s.world.statics) s)) (Code.expr_code program e) (I.SetStatic c n ∷ []) (values e) (λ v a k s h. set_static_at c n v a k s h)
  static_does c n true None = λ a k st post. post
  static_does c n false (Some e) = λ a k st post. post
  static_does c n false None = λ a k st post. post

  statics_does : (c n : ℕ) (fs : List TypedField) → DoesSo (D.initial_statics setting again names c n fs) (Code.statics_code program c n fs)
  statics_does c n [] a k st post = post
  statics_does c n (f ∷ fs) a k st post =
      does_then site image r (D.initial_static setting again names c n f.is_static f.value) (D.initial_statics setting again names c (suc n) fs) (Code.static_code program c n f.is_static f.value) (Code.statics_code program c (suc n) fs)
      (static_does c n f.is_static f.value) (statics_does c (suc n) fs) a k st post

  -- ---- arguments

  all_put : (es : List TypedExpr) → OfLists.AllPut site image r (map (value_of setting again names) es) (map (Code.expr_code program) es)
  all_put [] = tt
  all_put (e ∷ es) = (values e, all_put es)

  args_at : (es : List TypedExpr) (a : Around) (k : Instrs) (st : State) → Holds (λ vs s. length vs ≡ length es → At a k (pushed vs []) s) (Stopped a) (D.values setting again names es st) → At a (Code.exprs_code program es ++ k) [] st
  args_at es a k st post =
      OfLists.all_at site image r (map (value_of setting again names) es) (map (Code.expr_code program) es) (all_put es) a k [] st
      (weaken _ _ (Stopped a) (D.values setting again names es st) (λ vs s h n. h (n ∙ length-map es (Code.expr_code program))) post)

  -- ---- constructors on an instance that is made already

  -- where nothing changes the activation
  abbrev Behind : Around → Instrs → List Value → Here → Res (Unit {0}) → Type 0
  Behind a k temps here res = Holds (λ u s. s.here ≡ here → At a k temps s) (λ why s. s.here ≡ here → Stopped a why s) res

  behind : (a : Around) (k : Instrs) (temps : List Value) (here : Here) (res : Res (Unit {0})) → Holds (λ u s. At a k temps s) (Stopped a) res → Behind a k temps here res
  behind a k temps here res post = weaken_end _ _ _ res (λ why s h q. h) (weaken _ _ (Stopped a) res (λ u s h q. h) post)

  construct_at : (c m n : ℕ) (args : List Value) (a : Around) (k : Instrs) (temps : List Value) (st : State) → length args ≡ n →
      Holds (λ u s. At a k temps s) (Stopped a) (dropped (called (again.body (Constructor c m) args st.here.this) st)) → At a (I.Construct c m n ∷ k) (pushed args temps) st
  construct_at c m n args a k temps st e post =
      T.first site image r a (I.Construct c m n) k (pushed args temps) st
      (λ pc w b d. OfLists.taken_comes site image r n args temps
      (λ vs stack. Calls.call image (B.Constructor c m) vs st.here.this A.Constructed st.here (standing (ground a (pc + 1) stack st.here) st w)) (config a pc (pushed args temps) st w) st.world.txn.tape e
      (called_at site image r again follows (Constructor c m) args st.here.this A.Constructed (ground a (pc + 1) temps st.here) st w (config a pc (pushed args temps) st w) refl (λ s. refl) b
      (undropped (ground a (pc + 1) temps st.here) (called (again.body (Constructor c m) args st.here.this) st)
      (Begins.then_at setting image r is again follows a (pc + 1) k temps st.here (dropped (called (again.body (Constructor c m) args st.here.this) st)) d
      (behind a k temps st.here (dropped (called (again.body (Constructor c m) args st.here.this) st)) post))))) where
        undropped : (g : Ground) (res : Res Value) → Begins.Then setting image r is again follows g st.here (dropped res) →
            Holds (λ v s. s.here ≡ st.here → Ready site image r (resumed g A.Constructed v) s) (λ why s. s.here ≡ st.here → Gone site image r g A.Begun why s) res
        undropped g (Gives v s) h = h
        undropped g (Stops why s) h = h

  message_at : (n : ℕ) (args : List Value) (a : Around) (k : Instrs) (temps : List Value) (st : State) → length args ≡ n → At a k temps (set_message st.here.this args st) → At a (I.MessageThis n ∷ k) (pushed args temps) st
  message_at n args a k temps st e post =
      T.first site image r a (I.MessageThis n) k (pushed args temps) st (λ pc w b d. OfLists.taken_comes site image r n args temps
      (λ vs stack. next (Things.set_message st.here.this vs (config a pc (pushed args temps) st w)) stack) (config a pc (pushed args temps) st w) st.world.txn.tape e (by pc w b d st.here.this args post)) where
        by : (pc : ℕ) (w : TxnState) → Stands a.below st w → drop (pc + 1) (instrs_at image a.body) ≡ k → (this : Value) (vs : List Value) → At a k temps (set_message this vs st) →
            T.Comes site image r (next (Things.set_message this vs (config a pc (pushed args temps) st w)) temps) (config a pc (pushed args temps) st w) st.world.txn.tape
        by pc w b d (Plain c) vs h = h.by (pc + 1) w b d
        by pc w b d (Object x) [] h = h.by (pc + 1) w b d
        by pc w b d (Object x) (Plain m ∷ vs) h = h.by (pc + 1) w b d
        by pc w b d (Object x) (Object y ∷ vs) h = h.by (pc + 1) w b d

  constructed_at : (c : ℕ) (which : Which) (n : ℕ) (args : List Value) (a : Around) (k : Instrs) (st : State) → length args ≡ n →
      Holds (λ u s. At a k [] s) (Stopped a) (constructed program again c which args st.here.this st) → At a (Code.construct_code program c which n ++ k) (pushed args []) st
  constructed_at c (C.Declared m) n args a k st e post = construct_at c m n args a k [] st e post
  constructed_at c C.Implied n args a k st e post =
      T.at_same site image r a ((replicate n I.Pop ++ b ∷ []) ++ k) (replicate (length args) I.Pop ++ b ∷ k) (pushed args []) st
      (append_assoc (replicate n I.Pop) (b ∷ []) k ∙ ap (λ m. replicate m I.Pop ++ b ∷ k) (sym e))
      (pops_at a args (b ∷ k) [] st (Begins.begin_at setting image r is again follows (own_starts program c) a k [] st (behind a k [] st.here (started program again st.here.this (own_starts program c) st) post))) where
        b : Instr
        b = I.Begin (Code.starts_code program (own_starts program c))
  constructed_at c C.Exception n args a k st e post =
      Begins.begin_at setting image r is again follows (own_starts program c) a (I.MessageThis n ∷ k) (pushed args []) st
      (weaken_end _ _ _ res (λ why s h q. h)
      (weaken _ _ (Stopped a) res (λ u s h q. message_at n args a k [] s e (subst (λ (x : Here). At a k [] (set_message x.this args s)) (sym q) h))
      (bound (λ u s. At a k [] s) (Stopped a) res (λ u s. Gives tt (set_message st.here.this args s)) post))) where
        res : Res (Unit {0})
        res = started program again st.here.this (own_starts program c) st

  own_at : (ss : Starts) (c : ℕ) → DoesSo (D.own_fields setting again names ss c) (Code.own_code program ss c ∷ [])
  own_at ss c a k st post =
      Begins.begin_at setting image r is again follows (and_fields ss c) a k [] st (behind a k [] st.here (started program again st.here.this (and_fields ss c) st) post)

  -- a step, arguments, and then what is done with them
  args_then : (es : List TypedExpr) (go : List Value → Do) (is : Instrs) →
      ((args : List Value) (a : Around) (k : Instrs) (st : State) → length args ≡ length es → Holds (λ u s. At a k [] s) (Stopped a) (go args st) → At a (is ++ k) (pushed args []) st) →
      DoesSo (λ st. bind (charge K.Steps 1 st) (λ u s. bind (D.values setting again names es s) go)) (I.Step ∷ (Code.exprs_code program es ++ is))
  args_then es go is f =
      step_then site image r (λ s. bind (D.values setting again names es s) go) (Code.exprs_code program es ++ is)
      (λ a k st post. T.again_at site image r a (Code.exprs_code program es) is k [] st
      (args_at es a (is ++ k) st (weaken _ _ (Stopped a) (D.values setting again names es st) (λ vs s h n. f vs a k s n h) (bound (λ u s. At a k [] s) (Stopped a) (D.values setting again names es st) go post))))

  begins_does : (c : ℕ) (call : ParentCall) → DoesSo (D.begins setting again names c call) (Code.parent_code program c call)
  begins_does c P.Nothing = own_at no_starts c
  begins_does c (P.Implied i) = own_at (starts program (Some i)) c
  begins_does c (P.Super p which es) =
      args_then es (λ args s1. bind (constructed program again p which args s1.here.this s1) (λ u1 s2. D.own_fields setting again names no_starts c s2)) (Code.construct_code program p which (length es) ++ Code.own_code program no_starts c ∷ [])
      (λ args a k s n h. T.again_at site image r a (Code.construct_code program p which (length es)) (Code.own_code program no_starts c ∷ []) k (pushed args []) s
      (constructed_at p which (length es) args a (Code.own_code program no_starts c ∷ k) s n
      (weaken _ _ (Stopped a) (constructed program again p which args s.here.this s) (λ u s1 g. own_at no_starts c a k s1 g)
      (bound (λ u s1. At a k [] s1) (Stopped a) (constructed program again p which args s.here.this s) (λ u1 s2. D.own_fields setting again names no_starts c s2) h))))
  begins_does c (P.Exception es) =
      args_then es (λ args s1. D.own_fields setting again names no_starts c (set_message s1.here.this args s1)) (I.MessageThis (length es) ∷ Code.own_code program no_starts c ∷ [])
      (λ args a k s n h. message_at (length es) args a (Code.own_code program no_starts c ∷ k) [] s n (own_at no_starts c a k (set_message s.here.this args s) h))
  begins_does c (P.This which es) =
      args_then es (λ args s1. constructed program again c which args s1.here.this s1) (Code.construct_code program c which (length es)) (λ args a k s n h. constructed_at c which (length es) args a k s n h)

  constructs_does : (c : ℕ) (o : Option TypedConstructor) → DoesSo (D.constructs setting again names c o) (constructed_code program c o)
  constructs_does c None a k st post = post
  constructs_does c (Some x) a k st post =
      does_then site image r (D.begins setting again names c x.parent) (does_all setting again names x.stmts) (Code.parent_code program c x.parent) (Code.block_code program x.stmts) (begins_does c x.parent)
      (stmts_at setting image r is again names follows values x.stmts) a k st post

  method_does : (o : Option (List TypedStmt)) → DoesSo (D.method_does setting again names o) (Code.method_code program o)
  method_does None a k st post = post
  method_does (Some ss) a k st post = stmts_at setting image r is again names follows values ss a k st post

  -- ---- bodies

  abbrev pub code_in : Body → Instrs
  code_in (Method c m) = Code.method_code program (code_of program c m)
  code_in (Constructor c m) = constructed_code program c (constructor_at program c m)
  code_in (Fields c) = Code.fields_code program c 0 (fields_at program c)
  code_in (Statics c) = Code.statics_code program c 0 (fields_at program c)
  code_in (Trigger n) = Code.method_code program (trigger_at program n)

  pub body_does : (b : Body) → DoesSo (D.body_does setting again names b) (code_in b)
  body_does (Method c m) a k st post = method_does (code_of program c m) a k st post
  body_does (Constructor c m) a k st post = constructs_does c (constructor_at program c m) a k st post
  body_does (Fields c) a k st post = fields_does c 0 (fields_at program c) a k st post
  body_does (Statics c) a k st post = statics_does c 0 (fields_at program c) a k st post
  body_does (Trigger n) a k st post = method_does (trigger_at program n) a k st post
