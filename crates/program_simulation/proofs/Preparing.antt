-- Frames of initial values: classes that are prepared, and what runs where a constructor isn't written.
use Rattle.std.proofs.Common.{◌≡◌, ℕ, ◌+◌, List, [], ◌∷◌, ◌++◌, length, map, reverse, Option, None, Some, refl, sym, ap, ◌∙◌, subst}
use Rattle.std.proofs.lemmas.List.{map-append, reverse-append, reverse-reverse}
use Rattle.activations.specs.declared.abrupt.Abrupt.{Abrupt}
use Rattle.activations.specs.declared.abrupt.Abrupt.TheVariants.{Throws, Returns, Breaks, Continues}
use Rattle.activations.specs.declared.here.Here.{Here}
use Rattle.request_states.specs.Runs.{Setting, site_of}
use Rattle.request_states.specs.States.{State, Res}
use Rattle.request_states.specs.Values.{null}
use Rattle.apex_meaning.specs.Classes.{chain, fields_at, Starts}
use Rattle.apex_meaning.specs.Meanings.{Again, Body, Constructor, Fields, Statics, Do, all_do, called, dropped}
use Rattle.apex_meaning.specs.Preparing as P
use Rattle.apex_meaning.specs.Preparing.{unprepared, with_statics, prepared, started}
use Rattle.save_meaning.proofs.Holding.{bound, weaken, weaken_end}
use Rattle.save_meaning.specs.Results.{Stop, Leaves, Closes, Gives, Stops, bind, Holds}
use Rattle.save_meaning.specs.declared.run.TxnState.{TxnState}
use Rattle.tenant_trails.specs.Runs as Trail
use Rattle.txn_heap.specs.declared.thing.Value.{Value}
use Rattle.txn_heap.specs.Statics.{prepare}
use Rattle.stack_code.specs.Calls as Calls
use Rattle.stack_code.specs.Code.{starts_code}
use Rattle.stack_code.specs.Machine.{Next, class_code}
use Rattle.stack_code.specs.declared.code.Instr.TheVariants as I
use Rattle.stack_code.specs.declared.image.Image.{Image}
use Rattle.stack_code.specs.declared.state.After.TheVariants as A
use Rattle.stack_code.specs.declared.state.Config.{Config}
use Rattle.program_simulation.proofs.Classes.{IsImage}
use Rattle.program_simulation.proofs.Frames as F
use Rattle.program_simulation.proofs.Frames.{Ground, ground, standing, in_it, waits, at_body}
use Rattle.program_simulation.proofs.Simulates as Sim
use Rattle.program_simulation.proofs.Simulates.{Around, Stands, config, stands_begun, stands_begins}

-- the last of several
all_do_last : (ds : List Do) (d : Do) (st : State) → all_do (ds ++ d ∷ []) st ≡ bind (all_do ds st) (λ u s. d s)
all_do_last [] d st = by (d st) where
  by : (res : Res (Unit {0})) → bind {A = Unit {0}} {B = Unit {0}} res (λ u s. Gives tt s) ≡ res
  by (Gives u s) = refl
  by (Stops why s) = refl
all_do_last (x ∷ ds) d st = by (x st) (λ s. all_do_last ds d s) where
  by : (res : Res (Unit {0})) → ((s : State) → all_do (ds ++ d ∷ []) s ≡ bind (all_do ds s) (λ u s1. d s1)) → bind {A = Unit {0}} {B = Unit {0}} res (λ u s. all_do (ds ++ d ∷ []) s) ≡ bind {A = Unit {0}} {B = Unit {0}} (bind {A = Unit {0}} {B = Unit {0}} res (λ u s. all_do ds s)) (λ u s. d s)
  by (Gives u s) h = h s
  by (Stops why s) h = refl

module _ (setting : Setting) (image : Image) (r : Trail.Run) (is : IsImage setting.program image) (again : Again) (follows : F.Follows (site_of setting) image r again) where
  abbrev Ready : Ground → State → Type 0
  Ready g st = F.Ready (site_of setting) image r g st

  abbrev Gone : Ground → Stop Abrupt → State → Type 0
  Gone g why st = F.Gone (site_of setting) image r g A.Begun why st

  -- a result that is followed in this frame, at this activation
  abbrev pub FollowsIn : {A : Type 0} → Ground → Here → Res A → Type 0
  FollowsIn g h res = Holds (λ x s. s.here ≡ h → Ready g s) (λ why s. s.here ≡ h → Gone g why s) res

  -- a frame of initial values over it
  abbrev over : (ℕ → Body) → Value → Here → ℕ → Ground → Ground
  over b this h k g = F.entered (site_of setting) image r g (at_body (b k)) [] this A.Begun h

  -- and one for each, of which the last one runs first
  abbrev entering : (ℕ → Body) → Value → Here → List ℕ → Ground → Ground
  entering b this h [] g = g
  entering b this h (k ∷ ks) g = entering b this h ks (over b this h k g)

  entering_statics : (h : Here) (ks : List ℕ) (g : Ground) (st : State) (w : TxnState) → Calls.enter_statics image ks h (standing g st w) ≡ standing (entering Statics null h ks g) st w
  entering_statics h [] g st w = refl
  entering_statics h (k ∷ ks) g st w = entering_statics h ks (over Statics null h k g) st w

  entering_fields : (this : Value) (h : Here) (ks : List ℕ) (g : Ground) (st : State) (w : TxnState) → Calls.enter_fields image ks this h (standing g st w) ≡ standing (entering Fields this h ks g) st w
  entering_fields this h [] g st w = refl
  entering_fields this h (k ∷ ks) g st w = entering_fields this h ks (over Fields this h k g) st w

  -- what is thrown in a frame of initial values goes on under it
  gone_over : (b : ℕ → Body) (this : Value) (h : Here) (k : ℕ) (g : Ground) (why : Stop Abrupt) (st : State) → Gone g why st → Gone (over b this h k g) why st
  gone_over b this h k g (Leaves (Throws e)) st x = record { by = λ w a. Sim.stepped (site_of setting) image r _ st.world.txn.tape _ refl (x.by w (stands_begun g.below (waits g A.Begun) st w refl a)) }
  gone_over b this h k g (Leaves (Returns v)) st x = tt
  gone_over b this h k g (Leaves Breaks) st x = tt
  gone_over b this h k g (Leaves Continues) st x = tt
  gone_over b this h k g (Closes f) st x = x

  gone_all : (b : ℕ → Body) (this : Value) (h : Here) (ks : List ℕ) (g : Ground) (why : Stop Abrupt) (st : State) → Gone g why st → Gone (entering b this h ks g) why st
  gone_all b this h [] g why st x = x
  gone_all b this h (k ∷ ks) g why st x = gone_all b this h ks (over b this h k g) why st (gone_over b this h k g why st x)

  stands_all : (b : ℕ → Body) (this : Value) (h : Here) (ks : List ℕ) (g : Ground) (st : State) (w : TxnState) → Stands g.below st w → Stands (entering b this h ks g).below st w
  stands_all b this h [] g st w a = a
  stands_all b this h (k ∷ ks) g st w a = stands_all b this h ks (over b this h k g) st w (stands_begins g.below (waits g A.Begun) st w refl a)

  stands_under : (b : ℕ → Body) (this : Value) (h : Here) (ks : List ℕ) (g : Ground) (st : State) (w : TxnState) → Stands (entering b this h ks g).below st w → Stands g.below st w
  stands_under b this h [] g st w a = a
  stands_under b this h (k ∷ ks) g st w a = stands_begun g.below (waits g A.Begun) st w refl (stands_under b this h ks (over b this h k g) st w a)

  -- the initial values of one class
  abbrev value_in : (ℕ → Body) → Value → ℕ → Do
  value_in b this k st = dropped (again.body (b k) [] this st)

  one_at : (b : ℕ → Body) (this : Value) (h : Here) (k : ℕ) (g : Ground) (s : State) → s.here ≡ h → FollowsIn g h (value_in b this k s) → Ready (over b this h k g) s
  one_at b this h k g s e post = subst (λ x. Ready (over b this x k g) s) e (record { by = λ w a. follows.body (b k) [] this A.Begun g s w a (by (again.body (b k) [] this s) post) }) where
    by : (res : Res Value) → FollowsIn g h (dropped res) → Holds (λ v s1. s1.here ≡ s.here → F.Given (site_of setting) image r g A.Begun v s1) (λ why s1. s1.here ≡ s.here → Gone g why s1) res
    by (Gives v s1) p = λ q. p (q ∙ e)
    by (Stops why s1) p = λ q. p (q ∙ e)

  -- of some classes, the last one's first
  each_at : (b : ℕ → Body) (this : Value) (h : Here) (ks : List ℕ) (g : Ground) (st : State) (w : TxnState) → st.here ≡ h → Stands g.below st w → FollowsIn g h (all_do (map (value_in b this) (reverse ks)) st) →
      Sim.Runs (site_of setting) image r (standing (entering b this h ks g) st w) st.world.txn.tape
  each_at b this h [] g st w e a post = (post e).by w a
  each_at b this h (k ∷ ks) g st w e a post =
      each_at b this h ks (over b this h k g) st w e (stands_begins g.below (waits g A.Begun) st w refl a)
      (weaken _ _ _ (all_do (map (value_in b this) (reverse ks)) st) (λ u s p q. one_at b this h k g s q p)
      (weaken_end _ _ _ (all_do (map (value_in b this) (reverse ks)) st) (λ why s p q. gone_over b this h k g why s (p q))
      (bound (λ u s. s.here ≡ h → Ready g s) (λ why s. s.here ≡ h → Gone g why s) (all_do (map (value_in b this) (reverse ks)) st) (λ u s. value_in b this k s)
      (subst (λ res. FollowsIn g h res) (last_of (map (value_in b this) (reverse ks)) (value_in b this k) _ st (turned k ks)) post))))
    where
      turned : (k : ℕ) (ks : List ℕ) → map (value_in b this) (reverse (k ∷ ks)) ≡ map (value_in b this) (reverse ks) ++ value_in b this k ∷ []
      turned k ks = ap (λ l. map (value_in b this) l) (reverse-append (k ∷ []) ks) ∙ map-append (value_in b this) (reverse ks) (k ∷ [])

      last_of : (ds : List Do) (d : Do) (all : List Do) (s : State) → all ≡ ds ++ d ∷ [] → all_do all s ≡ bind (all_do ds s) (λ u s1. d s1)
      last_of ds d all s q = ap (λ l. all_do l s) q ∙ all_do_last ds d s

  -- ---- classes are prepared

  marked_same : (ks : List ℕ) (statics : List (ℕ × List Value)) → Calls.marked image ks statics ≡ P.marked setting.program ks statics
  marked_same [] statics = refl
  marked_same (k ∷ ks) statics = ap (λ n. Calls.marked image ks (prepare k n statics)) (is.statics k) ∙ marked_same ks (prepare k (length (fields_at setting.program k)) statics)

  prepared_from : (g : Ground) (c : ℕ) (st : State) (w : TxnState) → g.top.here ≡ st.here → Stands g.below st w → FollowsIn g st.here (prepared setting.program again c st) →
      Sim.Runs (site_of setting) image r (Calls.prepare_these image (unprepared st.world.statics (Calls.chain_or (class_code image c))) (standing g st w)) st.world.txn.tape
  prepared_from g c st w q a post =
      let ks = unprepared st.world.statics (chain setting.program c) in
      let st1 = with_statics (P.marked setting.program (reverse ks) st.world.statics) st in
      subst (λ x. Sim.Runs (site_of setting) image r x st.world.txn.tape)
      (sym
      (ap (λ cs. Calls.prepare_these image (unprepared st.world.statics cs) (standing g st w)) (is.chain c)
      ∙ ap (λ statics. Calls.enter_statics image ks g.top.here (standing g (with_statics statics st) w)) (marked_same (reverse ks) st.world.statics)
      ∙ ap (λ h. Calls.enter_statics image ks h (standing g st1 w)) q
      ∙ entering_statics st.here ks g st1 w))
      (each_at Statics null st.here ks g st1 w refl a post)

  pub prepared_at : (c : ℕ) → Sim.Keeps (site_of setting) image r (prepared setting.program again c) (I.Prepare c ∷ [])
  prepared_at c a k temps st post =
      Sim.first (site_of setting) image r a (I.Prepare c) k temps st (λ pc w b d.
      prepared_from (ground a (pc + 1) temps st.here) c st w refl b
      (weaken _ _ _ (prepared setting.program again c st) (λ u s p q. F.at_ready (site_of setting) image r a (pc + 1) k temps st.here s d p q)
      (weaken_end _ _ _ (prepared setting.program again c st) (λ why s p q. F.stopped_gone (site_of setting) image r a (pc + 1) temps st.here why s p q) post)))

  -- ---- what runs where a constructor isn't written

  values_from : (h : Here) (fields : List ℕ) (this : Value) (g : Ground) (st : State) (w : TxnState) → st.here ≡ h → Stands g.below st w → FollowsIn g h (all_do (map (P.fields_of setting.program again this) fields) st) →
      Sim.Runs (site_of setting) image r (standing (entering Fields this h (reverse fields) g) st w) st.world.txn.tape
  values_from h fields this g st w e a post =
      each_at Fields this h (reverse fields) g st w e a
      (subst (λ ks. FollowsIn g h (all_do (map (value_in Fields this) ks) st)) (sym (reverse-reverse fields)) post)

  -- from a frame at the same activation
  pub begin_at : (ss : Starts) (this : Value) (g : Ground) (st : State) (w : TxnState) (c : Config) → g.top.here ≡ st.here → Stands g.below st w → FollowsIn g st.here (started setting.program again this ss st) →
      Sim.Comes (site_of setting) image r (Calls.begin image (starts_code setting.program ss) this (standing g st w)) c st.world.txn.tape
  begin_at ss this g st w c q a post =
      Sim.comes_as (site_of setting) image r _ (Calls.declared_first image (starts_code setting.program ss).declared this st.here (standing g1 st w)) c st.world.txn.tape
      (ap (λ h. Calls.declared_first image (starts_code setting.program ss).declared this h (Calls.enter_fields image (reverse ss.fields) this h (standing g st w))) q
      ∙ ap (λ x. Calls.declared_first image (starts_code setting.program ss).declared this st.here x) (entering_fields this st.here (reverse ss.fields) g st w))
      (by ss.declared post)
    where
      g1 : Ground
      g1 = entering Fields this st.here (reverse ss.fields) g

      code_of : Option (ℕ × ℕ) → Next
      code_of o = Calls.declared_first image (starts_code setting.program (record { declared = o; fields = ss.fields })).declared this st.here (standing g1 st w)

      by : (o : Option (ℕ × ℕ)) → FollowsIn g st.here (bind (P.declared_first setting.program again this o st) (λ u s. all_do (map (P.fields_of setting.program again this) ss.fields) s)) → Sim.Comes (site_of setting) image r (code_of o) c st.world.txn.tape
      by None p = values_from st.here ss.fields this g st w refl a p
      by (Some at) p =
          F.called_at (site_of setting) image r again follows (Constructor at.0 at.1) [] this A.Constructed g1 st w c refl (λ s. refl) (stands_all Fields this st.here (reverse ss.fields) g st w a)
          (ran (called (again.body (Constructor at.0 at.1) [] this) st) p)
        where
          ran : (res : Res Value) → FollowsIn g st.here (bind (dropped res) (λ u s. all_do (map (P.fields_of setting.program again this) ss.fields) s)) → FollowsIn g1 st.here res
          ran (Gives v s) x = λ e. record { by = λ v1 a1. values_from st.here ss.fields this g s v1 e (stands_under Fields this st.here (reverse ss.fields) g s v1 a1) x }
          ran (Stops why s) x = λ e. gone_all Fields this st.here (reverse ss.fields) g why s (x e)
