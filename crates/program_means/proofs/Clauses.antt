-- What catches: the machine runs the clause that the evaluator does.
use Rattle.std.proofs.Common.{◌≡◌, ℕ, ◌+◌, Bool, true, false, List, [], ◌∷◌, ◌++◌, length, drop, map, Option, None, Some, refl, sym, ap, ◌∙◌, subst}
use Rattle.activations.specs.declared.abrupt.Abrupt.{Abrupt}
use Rattle.activations.specs.declared.abrupt.Abrupt.TheVariants.{Throws, Returns, Breaks, Continues}
use Rattle.activations.specs.declared.abrupt.Raised.{Raised}
use Rattle.activations.specs.declared.abrupt.Raised.TheVariants.{Platform, Made}
use Rattle.request_states.specs.States.{State, Res, set_local, with_heap}
use Rattle.apex_num.specs.declared.cell.Cell.TheVariants as C
use Rattle.apex_meaning.specs.Exceptions as E
use Rattle.apex_meaning.specs.Exceptions.{Kind, BuiltIn, Declared, Nothing}
use Rattle.apex_meaning.specs.Meanings.{Do}
use Rattle.platform_errors.specs.Messages.{class, message}
use Rattle.save_meaning.specs.Results.{Gives, Stops, Leaves, Closes}
use Rattle.save_meaning.specs.Sites.{Site}
use Rattle.save_meaning.specs.declared.run.TxnState.{TxnState}
use Rattle.save_meaning.proofs.Holding.{weaken}
use Rattle.static_types.specs.declared.kind.ValueType.{ValueType}
use Rattle.static_types.specs.declared.kind.ValueType.TheOpen.{ValueType-F}
use Rattle.static_types.specs.declared.kind.ValueType.TheViews.{out-ValueType}
use Rattle.tenant_trails.specs.Runs as Trail
use Rattle.txn_heap.specs.declared.thing.Thing.TheVariants as Thing
use Rattle.txn_heap.specs.declared.thing.Value.{Value}
use Rattle.txn_heap.specs.declared.thing.Value.TheVariants.{Object}
use Rattle.typed_program.specs.declared.program.Program.{Program}
use Rattle.stack_code.specs.Code as Code
use Rattle.stack_code.specs.Code.{Instrs, ClauseCode, catch_code, clauses_code, clauses_from, clauses_length}
use Rattle.stack_code.specs.Machine.{Goes, instrs_at, in_mode}
use Rattle.stack_code.specs.Steps as Steps
use Rattle.stack_code.specs.Things as Things
use Rattle.stack_code.specs.declared.code.Instr.TheVariants as I
use Rattle.stack_code.specs.declared.image.Clause.{Clause}
use Rattle.stack_code.specs.declared.image.Image.{Image}
use Rattle.stack_code.specs.declared.state.Config.{Config}
use Rattle.stack_code.specs.declared.state.Handler.TheVariants as H
use Rattle.stack_code.specs.declared.state.Mode.TheVariants as M
use Rattle.program_means.proofs.Lists.{catch_is, catch_clauses, clause_is, clauses_next, clauses_over}
use Rattle.program_means.proofs.Open as Open
use Rattle.program_simulation.proofs.Classes.{IsImage}
use Rattle.program_simulation.proofs.Fetch.{fetch, next, past}
use Rattle.program_simulation.proofs.Simulates as T
use Rattle.program_simulation.proofs.Simulates.{Around, inside, config, Stands, stands_as}

module _ (site : Site) (program : Program) (image : Image) (is : IsImage program image) (r : Trail.Run) where
  abbrev At : Around → Instrs → List Value → State → Type 0
  At a k temps st = T.At site image r a k temps st

  abbrev Left : Around → Abrupt → State → Type 0
  Left a why st = T.Left site image r a why st

  abbrev GoesOn : Around → Instrs → Res (Unit {0}) → Type 0
  GoesOn a k res = Open.GoesOn site image r a k res

  abbrev Does : Do → Instrs → Type 0
  Does f is = T.Does site image r f is

  -- ---- what a clause takes

  same_declared : (c : ℕ) (k : Kind) → Things.is_declared image c k ≡ E.is_declared program c k
  same_declared c (BuiltIn e) = refl
  same_declared c (Declared k) = is.fits k c
  same_declared c Nothing = refl

  same_takes_form : (t : ValueType-F ValueType) (k : Kind) → Steps.takes site image (Code.kind_form t) k ≡ E.takes_form program t k
  same_takes_form (ValueType-F.Class c) k = same_declared c k
  same_takes_form t k = refl

  same_takes : (t : ValueType) (k : Kind) → Steps.takes site image (Code.kind_of t) k ≡ E.takes program t k
  same_takes t k = same_takes_form (out-ValueType t) k

  -- ---- the clause that is found

  -- a clause and its code
  pub record OfClause (means : E.Clause) (code : ClauseCode) : Type 0 where
    pub kind : code.kind ≡ Code.kind_of means.kind
    pub slot : code.slot ≡ means.slot
    pub does : Does means.body code.code

  module _ {A B : Type 0} (get : A → B) (run : B → E.Clause) (code : B → ClauseCode) (ok : (x : A) → OfClause (run (get x)) (code (get x))) (a : Around) (l k : Instrs) where
    abbrev runs : List A → List E.Clause
    runs xs = map run (map get xs)

    abbrev codes : List A → List ClauseCode
    codes xs = map code (map get xs)

    -- the code at the place of a clause does what it does, and goes on behind all of them
    record FoundAt (means : E.Clause) (clause : Clause) : Type 0 where
      slot : clause.slot ≡ means.slot
      instrs : Instrs
      there : drop clause.target l ≡ instrs
      does : (s : State) → GoesOn a k (means.body s) → At a instrs [] s

    abbrev Found : Option E.Clause → Option Clause → Type 0
    Found None None = Unit {0}
    Found (Some means) (Some clause) = FoundAt means clause
    Found None (Some clause) = ⊥
    Found (Some means) None = ⊥

    chosen : (b : Bool) (later : Option E.Clause) (m : E.Clause) (c : Clause) (rest : Option Clause) → FoundAt m c → Found later rest → Found (E.if_takes b m later) (Steps.if_takes site image b c rest)
    chosen true later m c rest here there = here
    chosen false later m c rest here there = there

    first_found : (x : A) (xs : List A) (n : ℕ) → drop n l ≡ clauses_code (codes (x ∷ xs)) ++ k → FoundAt (run (get x)) (record { kind = (code (get x)).kind; slot = (code (get x)).slot; target = n })
    first_found x xs n d = record {
      slot = (ok x).slot;
      instrs = (code (get x)).code ++ I.Jump (clauses_length (codes xs)) ∷ (clauses_code (codes xs) ++ k);
      there = d ∙ clause_is (code (get x)) (codes xs) k;
      does = λ s h.
          (ok x).does a (I.Jump (clauses_length (codes xs)) ∷ (clauses_code (codes xs) ++ k)) s
          (weaken _ _ (T.Stopped site image r a) ((run (get x)).body s)
          (λ u s1 g. T.jump_at site image r a (clauses_length (codes xs)) (clauses_code (codes xs) ++ k) k [] s1 (clauses_over (codes xs) k) g) h);
    }

    found : (kind : Kind) (xs : List A) (n : ℕ) → drop n l ≡ clauses_code (codes xs) ++ k →
        Found (E.clause_for program kind (runs xs)) (Steps.clause_for site image kind (clauses_from n (codes xs)))
    found kind [] n d = tt
    found kind (x ∷ xs) n d =
        let c : Clause = record { kind = (code (get x)).kind; slot = (code (get x)).slot; target = n } in
        let rest = Steps.clause_for site image kind (clauses_from (n + length (code (get x)).code + 1) (codes xs)) in
        let e : Steps.takes site image (code (get x)).kind kind ≡ E.takes program (run (get x)).kind kind = ap (λ t. Steps.takes site image t kind) (ok x).kind ∙ same_takes (run (get x)).kind kind in
        subst (λ b. Found (E.if_takes (E.takes program (run (get x)).kind kind) (run (get x)) (E.clause_for program kind (runs xs))) (Steps.if_takes site image b c rest)) (sym e)
        (chosen (E.takes program (run (get x)).kind kind) (E.clause_for program kind (runs xs)) (run (get x)) c rest (first_found x xs n d)
        (found kind xs (n + length (code (get x)).code + 1) (clauses_next n l (code (get x)) (codes xs) k d)))

    -- ---- what is thrown goes on there

    abbrev handled : ℕ → Around
    handled p = inside a (H.Catches p)

    -- where the thrown value is in the slot of the clause
    entered : (p : ℕ) (clauses : List Clause) (means : E.Clause) (clause : Clause) (t : Raised) (s : State) → FoundAt means clause → drop p (instrs_at image a.body) ≡ I.OpenCatch clauses ∷ l →
        GoesOn a k (E.caught_by (Some means) t s) → (w : TxnState) → Stands a.below s w → (pc : ℕ) (c : Config) →
        T.Comes site image r (Steps.caught_at site image clause.slot (p + 1 + clause.target) t (in_mode (config a pc [] s w) (M.Leaving (Throws t)))) c s.world.txn.tape
    entered p clauses means clause (Made x) s f d post w b pc c =
        subst (λ n. T.Runs site image r (config a (p + 1 + clause.target) [] (set_local n (Object x) s) w) s.world.txn.tape) (sym f.slot)
        ((f.does (set_local means.slot (Object x) s) post).by (p + 1 + clause.target) w (stands_as a.below s (set_local means.slot (Object x) s) w refl b)
        (past p clause.target (instrs_at image a.body) l f.instrs f.there (next p (instrs_at image a.body) (I.OpenCatch clauses) l d)))
    entered p clauses means clause (Platform t) s f d post w b pc c =
        let v : Value = Object (record { place = length s.world.heap }) in
        let s1 : State = with_heap (s.world.heap ++ Thing.Exception (record { class = class t; message = C.Text (message t) }) ∷ []) s in
        subst (λ n. T.Runs site image r (config a (p + 1 + clause.target) [] (set_local n v s1) w) s.world.txn.tape) (sym f.slot)
        ((f.does (set_local means.slot v s1) post).by (p + 1 + clause.target) w (stands_as a.below s (set_local means.slot v s1) w refl b)
        (past p clause.target (instrs_at image a.body) l f.instrs f.there (next p (instrs_at image a.body) (I.OpenCatch clauses) l d)))

    caught : (p : ℕ) (clauses : List Clause) (t : Raised) (s : State) (o : Option E.Clause) (q : Option Clause) → Steps.clause_for site image (E.kind_of t s.world.heap) clauses ≡ q → Found o q →
        drop p (instrs_at image a.body) ≡ I.OpenCatch clauses ∷ l → GoesOn a k (E.caught_by o t s) → Left (handled p) (Throws t) s
    caught p clauses t s None None e f d post = record {
      by = λ pc temps w b. T.stepped site image r (in_mode (config (handled p) pc temps s w) (M.Leaving (Throws t))) s.world.txn.tape (Goes (in_mode (config a pc [] s w) (M.Leaving (Throws t))))
          (ap (λ i. Steps.caught site image i p t (in_mode (config a pc temps s w) (M.Leaving (Throws t)))) (fetch p (instrs_at image a.body) (I.OpenCatch clauses) l d)
          ∙ ap (λ c. Steps.caught_by site image c p t (in_mode (config a pc temps s w) (M.Leaving (Throws t)))) e) (post.by pc [] w b);
    }
    caught p clauses t s (Some means) (Some clause) e f d post = record {
      by = λ pc temps w b. T.stepped site image r (in_mode (config (handled p) pc temps s w) (M.Leaving (Throws t))) s.world.txn.tape
          (Steps.caught_at site image clause.slot (p + 1 + clause.target) t (in_mode (config a pc [] s w) (M.Leaving (Throws t))))
          (ap (λ i. Steps.caught site image i p t (in_mode (config a pc temps s w) (M.Leaving (Throws t)))) (fetch p (instrs_at image a.body) (I.OpenCatch clauses) l d)
          ∙ ap (λ c. Steps.caught_by site image c p t (in_mode (config a pc temps s w) (M.Leaving (Throws t)))) e ∙ landed (p + 1 + clause.target) t pc temps w) (entered p clauses means clause t s f d post w b pc (in_mode (config (handled p) pc temps s w) (M.Leaving (Throws t))));
    } where
      -- what lay on the stack is gone
      landed : (at : ℕ) (x : Raised) (pc : ℕ) (temps : List Value) (w : TxnState) →
          Steps.caught_at site image clause.slot at x (in_mode (config a pc temps s w) (M.Leaving (Throws t))) ≡ Steps.caught_at site image clause.slot at x (in_mode (config a pc [] s w) (M.Leaving (Throws t)))
      landed at (Made y) pc temps w = refl
      landed at (Platform y) pc temps w = refl
    caught p clauses t s None (Some clause) e f d post = absurd f
    caught p clauses t s (Some means) None e f d post = absurd f

    -- ---- what stands before the clauses

    catch_body : (p : ℕ) (clauses : List Clause) (xs : List A) (ek : Instrs) (res : Res (Unit {0})) → drop p (instrs_at image a.body) ≡ I.OpenCatch clauses ∷ l →
        ((kind : Kind) → Found (E.clause_for program kind (runs xs)) (Steps.clause_for site image kind clauses)) → ((s : State) → At a k [] s → At (handled p) ek [] s) →
        GoesOn a k (E.catching program (runs xs) res) → GoesOn (handled p) ek res
    catch_body p clauses xs ek (Gives u s) d f go post = go s post
    catch_body p clauses xs ek (Stops (Leaves (Throws t)) s) d f go post =
        caught p clauses t s (E.clause_for program (E.kind_of t s.world.heap) (runs xs)) (Steps.clause_for site image (E.kind_of t s.world.heap) clauses) refl (f (E.kind_of t s.world.heap)) d post
    catch_body p clauses xs ek (Stops (Leaves (Returns v)) s) d f go post = Open.passes site image r a (H.Catches p) (Returns v) s (λ pc temps w. refl) post
    catch_body p clauses xs ek (Stops (Leaves Breaks) s) d f go post = Open.passes site image r a (H.Catches p) Breaks s (λ pc temps w. refl) post
    catch_body p clauses xs ek (Stops (Leaves Continues) s) d f go post = Open.passes site image r a (H.Catches p) Continues s (λ pc temps w. refl) post
    catch_body p clauses xs ek (Stops (Closes f0) s) d f go post = post

  module _ {A B : Type 0} (get : A → B) (run : B → E.Clause) (code : B → ClauseCode) (ok : (x : A) → OfClause (run (get x)) (code (get x))) where
    pub catch_at : (xs : List A) (f : Do) (body : Instrs) → Does f body → Does (λ st. E.catching program (map run (map get xs)) (f st)) (catch_code (map code (map get xs)) body)
    catch_at xs f body does_body a k st post =
        T.at_same site image r a (catch_code cs body ++ k) (I.OpenCatch clauses ∷ l) [] st (catch_is cs body k)
        (Open.first_here site image r a (I.OpenCatch clauses) l [] st
        (λ pc w b d. (does_body (inside a (H.Catches pc)) ek st
        (catch_body get run code ok a l k pc clauses xs ek (f st) d (λ kind. found get run code ok a l k kind xs (length body + 2) (catch_clauses (clauses_length cs) body (clauses_code cs ++ k)))
        (λ s h. Open.close_at site image r a (H.Catches pc) (I.Jump (clauses_length cs) ∷ (clauses_code cs ++ k)) s
        (T.jump_at site image r a (clauses_length cs) (clauses_code cs ++ k) k [] s (clauses_over cs k) h)) post)).by (pc + 1) w b (next pc (instrs_at image a.body) (I.OpenCatch clauses) l d))) where
          cs : List ClauseCode
          cs = map code (map get xs)

          clauses : List Clause
          clauses = clauses_from (length body + 2) cs

          ek : Instrs
          ek = I.Close ∷ I.Jump (clauses_length cs) ∷ (clauses_code cs ++ k)

          l : Instrs
          l = body ++ ek
