-- Classes by hand, and whole runs of blocks with them.
use Rattle.std.proofs.Common.{◌≡◌, ℕ, zero, suc, ◌+◌, ◌-◌, ◌*◌, ◌≤◌, length, arith, Bool, true, false, List, [], ◌∷◌, map, codes, pos, Option, None, Some, refl, ap, ◌∙◌}
use Rattle.std.specs.Prelude.{slice_get}
use Rattle.apex_num.specs.declared.kind.LimitKind.TheVariants.{Steps}
use Rattle.apex_requests.specs.declared.reply.Outcome.{Outcome}
use Rattle.apex_schema.specs.declared.schema.Access.TheVariants.{Edit}
use Rattle.apex_schema.specs.declared.schema.FieldKind.TheVariants as Kind
use Rattle.apex_schema.specs.declared.schema.Mode.{Mode}
use Rattle.apex_schema.specs.declared.schema.Object.{Object}
use Rattle.save_meaning.specs.Results.{Gives, bind}
use Rattle.tenant_trails.specs.Runs.{Run as Trail, Asks, Ends}
use Rattle.txn_heap.specs.Statics.{with_static}
use Rattle.txn_heap.specs.declared.thing.Value.{Value}
use Rattle.typed_program.specs.declared.expr.Constructor.{Constructor}
use Rattle.typed_program.specs.declared.expr.Constructor.TheVariants as By
use Rattle.typed_program.specs.declared.unit.ImpliedCall.{ImpliedCall}
use Rattle.typed_program.specs.declared.unit.ParentCall.{ParentCall}
use Rattle.typed_program.specs.declared.unit.ParentCall.TheVariants as P
use Rattle.typed_program.specs.declared.unit.ParentClass.{ParentClass}
use Rattle.typed_program.specs.declared.unit.ParentClass.TheVariants as Parent
use Rattle.typed_program.specs.declared.unit.TypedClass.{TypedClass}
use Rattle.typed_program.specs.declared.unit.TypedConstructor.{TypedConstructor}
use Rattle.typed_program.specs.declared.unit.TypedEvent.{TypedEvent}
use Rattle.typed_program.specs.declared.unit.TypedField.{TypedField}
use Rattle.typed_program.specs.declared.unit.TypedMethod.{TypedMethod}
use Rattle.typed_program.specs.declared.unit.TypedTrigger.{TypedTrigger}
use Rattle.request_states.specs.Runs.{Setting, first_state}
use Rattle.request_states.specs.States.{State, charge}
use Rattle.apex_meaning.specs.Bodies as B
use Rattle.apex_meaning.specs.Bodies.{rounds, enough, body_runs}
use Rattle.apex_meaning.specs.Classes
use Rattle.apex_meaning.specs.Classes.{code_of, constructor_at, field_place, fields_at, no_starts, starts, trigger_at}
use Rattle.apex_meaning.specs.Meanings.{Again, Body, Method, Constructor as Written, Fields, Statics, Trigger, Do, Run, all_do, all_of, in_here, returned, turn}
use Rattle.apex_meaning.specs.Places.{set_field}
use Rattle.apex_meaning.specs.Preparing.{constructed, set_message, with_statics}
use Rattle.apex_meaning.specs.Runs.{run_of, names_of, block_does, block_run}
use Rattle.limit_meter.specs.Charges.{Entry}
use Rattle.apex_meaning.specs.Statements.{does_all}
use Rattle.language_samples.proofs.Known.{Names, ExprOf, expr_trees, expr_all, expr_each}
use Rattle.language_samples.proofs.Stmts.{StmtOf, stmt_trees, stmt_all, stmt_each}

-- ---- members

pub record FieldOf : Type 0 where
  pub is_static : Bool
  pub value : Option ExprOf

pub record MethodOf : Type 0 where
  pub name : List ℕ
  pub params : ℕ
  pub is_static : Bool
  pub body : Option (List StmtOf)

pub data CallOf : Type 0 where
  Nothing : CallOf
  Implied : ImpliedCall → CallOf
  Super : ℕ → Constructor → List ExprOf → CallOf
  Exception : List ExprOf → CallOf
  This : Constructor → List ExprOf → CallOf

pub record ConstructorOf : Type 0 where
  pub parent : CallOf
  pub stmts : List StmtOf

pub record ClassOf : Type 0 where
  pub name : List ℕ
  pub parent : ParentClass
  pub interfaces : List ℕ
  pub sharing : Option Mode
  pub implied : Option ImpliedCall
  pub fields : List FieldOf
  pub methods : List MethodOf
  pub constructors : List ConstructorOf

pub record TriggerOf : Type 0 where
  pub name : List ℕ
  pub object : ℕ
  pub events : List TypedEvent
  pub body : List StmtOf

-- ---- their trees

abbrev pub opt : {A B : Type 0} → (A → B) → Option A → Option B
opt f None = None
opt f (Some a) = Some (f a)

abbrev pub field_tree : FieldOf → TypedField
field_tree f = record { is_static = f.is_static; value = opt (λ (e : ExprOf). e.tree) f.value }

abbrev pub method_tree : MethodOf → TypedMethod
method_tree m = record { name = m.name; params = m.params; is_static = m.is_static; body = opt stmt_trees m.body }

abbrev pub call_tree : CallOf → ParentCall
call_tree Nothing = P.Nothing
call_tree (Implied i) = P.Implied i
call_tree (Super c k es) = P.Super c k (expr_trees es)
call_tree (Exception es) = P.Exception (expr_trees es)
call_tree (This k es) = P.This k (expr_trees es)

abbrev pub constructor_tree : ConstructorOf → TypedConstructor
constructor_tree k = record { parent = call_tree k.parent; stmts = stmt_trees k.stmts }

abbrev pub class_tree : ClassOf → TypedClass
class_tree c = record {
  name = c.name;
  parent = c.parent;
  interfaces = c.interfaces;
  sharing = c.sharing;
  implied = c.implied;
  fields = map field_tree c.fields;
  methods = map method_tree c.methods;
  constructors = map constructor_tree c.constructors;
}

-- its name is written in small letters
abbrev pub trigger_tree : TriggerOf → TypedTrigger
trigger_tree t = record { name = t.name; folded = t.name; object = t.object; events = t.events; body = stmt_trees t.body }

-- Thing__c with a number, and RowShare
unfoldable pub sample_objects : List Object
sample_objects =
    record {
      name = codes "Thing__c";
      prefix = codes "a01";
      default = Edit;
      heads = [];
      rules = [];
      fields =
          record { name = codes "Id"; kind = Kind.Id; required = false } ∷ record { name = codes "OwnerId"; kind = Kind.Id; required = false }
          ∷ record { name = codes "Amount__c"; kind = Kind.Number; required = false } ∷ [];
    }
    ∷ record { name = codes "RowShare"; prefix = codes "00r"; default = Edit; heads = []; rules = []; fields = [] } ∷ []

abbrev pub setting : List TriggerOf → List ClassOf → Setting
setting triggers classes = record {
  schema = record { roles = []; users = record { name = codes "ann"; role = None } ∷ []; objects = sample_objects };
  program = record { classes = map class_tree classes; triggers = map trigger_tree triggers; blocks = [] };
  ticket = record { session = 0; index = 0; user = 0; now = pos 0 };
}

-- ---- what bodies do

abbrev pub fields_in : Option ClassOf → List FieldOf
fields_in None = []
fields_in (Some c) = c.fields

abbrev pub methods_in : Option ClassOf → List MethodOf
methods_in None = []
methods_in (Some c) = c.methods

abbrev pub constructors_in : Option ClassOf → List ConstructorOf
constructors_in None = []
constructors_in (Some c) = c.constructors

abbrev pub trigger_in : Option TriggerOf → Option (List StmtOf)
trigger_in None = None
trigger_in (Some t) = Some t.body

abbrev pub body_in : Option MethodOf → Option (List StmtOf)
body_in None = None
body_in (Some m) = m.body

got : {A B : Type 0} (f : A → B) (xs : List A) (i : ℕ) → slice_get (map f xs) i ≡ opt f (slice_get xs i)
got f [] i = refl
got f (x ∷ xs) zero = refl
got f (x ∷ xs) (suc i) = got f xs i

module _ (triggers : List TriggerOf) (classes : List ClassOf) (a : Again) (n : Names) where
  abbrev s : Setting
  s = setting triggers classes

  abbrev pub initial_field : ℕ → ℕ → Bool → Option ExprOf → Do
  initial_field c k false (Some e) st = bind (e.does s a n st) (λ v s1. set_field (field_place s.program c k) s1.here.this v s1)
  initial_field c k _ _ st = Gives tt st

  abbrev pub initial_fields : ℕ → ℕ → List FieldOf → Do
  initial_fields c k [] st = Gives tt st
  initial_fields c k (f ∷ fs) st = bind (initial_field c k f.is_static f.value st) (λ u s1. initial_fields c (suc k) fs s1)

  abbrev pub initial_static : ℕ → ℕ → Bool → Option ExprOf → Do
  initial_static c k true (Some e) st = bind (e.does s a n st) (λ v s1. Gives tt (with_statics (with_static c k v s1.world.statics) s1))
  initial_static c k _ _ st = Gives tt st

  abbrev pub initial_statics : ℕ → ℕ → List FieldOf → Do
  initial_statics c k [] st = Gives tt st
  initial_statics c k (f ∷ fs) st = bind (initial_static c k f.is_static f.value st) (λ u s1. initial_statics c (suc k) fs s1)

  abbrev pub begins : ℕ → CallOf → Do
  begins c Nothing st = B.own_fields s a n no_starts c st
  begins c (Implied i) st = B.own_fields s a n (starts s.program (Some i)) c st
  begins c (Super p k es) st =
      bind (charge Steps 1 st) (λ u s0.
      bind (all_of (expr_all s a n es) s0) (λ args s1.
      bind (constructed s.program a p k args s1.here.this s1) (λ u1 s2. B.own_fields s a n no_starts c s2)))
  begins c (Exception es) st =
      bind (charge Steps 1 st) (λ u s0.
      bind (all_of (expr_all s a n es) s0) (λ args s1. B.own_fields s a n no_starts c (set_message s1.here.this args s1)))
  begins c (This k es) st =
      bind (charge Steps 1 st) (λ u s0.
      bind (all_of (expr_all s a n es) s0) (λ args s1. constructed s.program a c k args s1.here.this s1))

  abbrev pub constructs : ℕ → Option ConstructorOf → Do
  constructs c None st = Gives tt st
  constructs c (Some k) st = bind (begins c k.parent st) (λ u s1. all_do (stmt_all s a n k.stmts) s1)

  abbrev pub method_does : Option (List StmtOf) → Do
  method_does None st = Gives tt st
  method_does (Some ks) st = all_do (stmt_all s a n ks) st

  abbrev pub body_does : Body → Do
  body_does (Method c m) st = method_does (body_in (slice_get (methods_in (slice_get classes c)) m)) st
  body_does (Written c k) st = constructs c (slice_get (constructors_in (slice_get classes c)) k) st
  body_does (Fields c) st = initial_fields c 0 (fields_in (slice_get classes c)) st
  body_does (Statics c) st = initial_statics c 0 (fields_in (slice_get classes c)) st
  body_does (Trigger t) st = method_does (trigger_in (slice_get triggers t)) st

  abbrev pub runs : Body → List Value → Value → Run
  runs b args this st = in_here (B.activation s a n b args this st.here) (λ s1. returned (body_does b s1)) st

  -- ---- and that this is what their trees do

  field_is : (c k : ℕ) (b : Bool) (o : Option ExprOf) → B.initial_field s a n c k b (opt (λ (e : ExprOf). e.tree) o) ≡ initial_field c k b o
  field_is c k false (Some e) = λ i st. bind (e.is s a n i st) (λ v s1. set_field (field_place s.program c k) s1.here.this v s1)
  field_is c k false None = refl
  field_is c k true (Some e) = refl
  field_is c k true None = refl

  fields_is : (c k : ℕ) (fs : List FieldOf) → B.initial_fields s a n c k (map field_tree fs) ≡ initial_fields c k fs
  fields_is c k [] = refl
  fields_is c k (f ∷ fs) = λ i st. bind (field_is c k f.is_static f.value i st) (λ u s1. fields_is c (suc k) fs i s1)

  static_is : (c k : ℕ) (b : Bool) (o : Option ExprOf) → B.initial_static s a n c k b (opt (λ (e : ExprOf). e.tree) o) ≡ initial_static c k b o
  static_is c k true (Some e) = λ i st. bind (e.is s a n i st) (λ v s1. Gives tt (with_statics (with_static c k v s1.world.statics) s1))
  static_is c k true None = refl
  static_is c k false (Some e) = refl
  static_is c k false None = refl

  statics_is : (c k : ℕ) (fs : List FieldOf) → B.initial_statics s a n c k (map field_tree fs) ≡ initial_statics c k fs
  statics_is c k [] = refl
  statics_is c k (f ∷ fs) = λ i st. bind (static_is c k f.is_static f.value i st) (λ u s1. statics_is c (suc k) fs i s1)

  begins_is : (c : ℕ) (call : CallOf) → B.begins s a n c (call_tree call) ≡ begins c call
  begins_is c Nothing = refl
  begins_is c (Implied i) = refl
  begins_is c (Super p k es) = λ i st.
      bind (charge Steps 1 st) (λ u s0. bind (all_of (expr_each s a n es i) s0) (λ args s1. bind (constructed s.program a p k args s1.here.this s1) (λ u1 s2. B.own_fields s a n no_starts c s2)))
  begins_is c (Exception es) = λ i st. bind (charge Steps 1 st) (λ u s0. bind (all_of (expr_each s a n es i) s0) (λ args s1. B.own_fields s a n no_starts c (set_message s1.here.this args s1)))
  begins_is c (This k es) = λ i st. bind (charge Steps 1 st) (λ u s0. bind (all_of (expr_each s a n es i) s0) (λ args s1. constructed s.program a c k args s1.here.this s1))

  constructs_is : (c : ℕ) (o : Option ConstructorOf) → B.constructs s a n c (opt constructor_tree o) ≡ constructs c o
  constructs_is c None = refl
  constructs_is c (Some k) = λ i st. bind (begins_is c k.parent i st) (λ u s1. all_do (stmt_each s a n k.stmts i) s1)

  method_is : (o : Option (List StmtOf)) → B.method_does s a n (opt stmt_trees o) ≡ method_does o
  method_is None = refl
  method_is (Some ks) = λ i st. all_do (stmt_each s a n ks i) st

  fields_there : (c : ℕ) → fields_at s.program c ≡ map field_tree (fields_in (slice_get classes c))
  fields_there c = of_class (slice_get classes c) (got class_tree classes c)
    where
      of_class : (o : Option ClassOf) → slice_get (map class_tree classes) c ≡ opt class_tree o → fields_at s.program c ≡ map field_tree (fields_in o)
      of_class None e = ap Classes.fields_of e
      of_class (Some k) e = ap Classes.fields_of e

  code_there : (c m : ℕ) → code_of s.program c m ≡ opt stmt_trees (body_in (slice_get (methods_in (slice_get classes c)) m))
  code_there c m = of_class (slice_get classes c) (got class_tree classes c)
    where
      of_method : (ms : List MethodOf) (o : Option MethodOf) → slice_get (map method_tree ms) m ≡ opt method_tree o → Classes.code_or (slice_get (map method_tree ms) m) ≡ opt stmt_trees (body_in o)
      of_method ms None e = ap Classes.code_or e
      of_method ms (Some x) e = ap Classes.code_or e

      of_class : (o : Option ClassOf) → slice_get (map class_tree classes) c ≡ opt class_tree o → code_of s.program c m ≡ opt stmt_trees (body_in (slice_get (methods_in o) m))
      of_class None e = ap (λ k. Classes.code_or (slice_get (Classes.methods_of k) m)) e
      of_class (Some k) e = ap (λ k. Classes.code_or (slice_get (Classes.methods_of k) m)) e ∙ of_method k.methods (slice_get k.methods m) (got method_tree k.methods m)

  trigger_there : (t : ℕ) → trigger_at s.program t ≡ opt stmt_trees (trigger_in (slice_get triggers t))
  trigger_there t = of_trigger (slice_get triggers t) (got trigger_tree triggers t)
    where
      of_trigger : (o : Option TriggerOf) → slice_get (map trigger_tree triggers) t ≡ opt trigger_tree o → trigger_at s.program t ≡ opt stmt_trees (trigger_in o)
      of_trigger None e = ap Classes.trigger_or e
      of_trigger (Some x) e = ap Classes.trigger_or e

  constructor_there : (c k : ℕ) → constructor_at s.program c k ≡ opt constructor_tree (slice_get (constructors_in (slice_get classes c)) k)
  constructor_there c k = of_class (slice_get classes c) (got class_tree classes c)
    where
      of_class : (o : Option ClassOf) → slice_get (map class_tree classes) c ≡ opt class_tree o → constructor_at s.program c k ≡ opt constructor_tree (slice_get (constructors_in o) k)
      of_class None e = ap (λ x. slice_get (Classes.constructors_of x) k) e
      of_class (Some x) e = ap (λ x. slice_get (Classes.constructors_of x) k) e ∙ got constructor_tree x.constructors k

  body_is : (b : Body) → B.body_does s a n b ≡ body_does b
  body_is (Method c m) = (λ i. B.method_does s a n (code_there c m i)) ∙ method_is _
  body_is (Written c k) = (λ i. B.constructs s a n c (constructor_there c k i)) ∙ constructs_is c _
  body_is (Fields c) = (λ i. B.initial_fields s a n c 0 (fields_there c i)) ∙ fields_is c 0 (fields_in (slice_get classes c))
  body_is (Trigger t) = (λ i. B.method_does s a n (trigger_there t i)) ∙ method_is _
  body_is (Statics c) = (λ i. B.initial_statics s a n c 0 (fields_there c i)) ∙ statics_is c 0 (fields_in (slice_get classes c))

  runs_is : body_runs s a n ≡ runs
  runs_is = λ i b args this st. in_here (B.activation s a n b args this st.here) (λ s1. returned (body_is b i s1)) st

-- ---- rounds, and whole runs

module _ (triggers : List TriggerOf) (classes : List ClassOf) (n : Names) where
  -- so many rounds, and then others
  abbrev pub goes : ℕ → Again → Again
  goes zero rest = rest
  goes (suc k) rest = record { body = runs triggers classes (goes k rest) n; loop = turn (goes k rest) }

  one_is : (a b : Again) → a ≡ b → ◌≡◌ {A = Again} (record { body = body_runs (setting triggers classes) a n; loop = turn a }) (record { body = runs triggers classes b n; loop = turn b })
  one_is a b e = first ∙ second
    where
      first : ◌≡◌ {A = Again} (record { body = body_runs (setting triggers classes) a n; loop = turn a }) (record { body = body_runs (setting triggers classes) b n; loop = turn b })
      first = λ i. record { body = body_runs (setting triggers classes) (e i) n; loop = turn (e i) }

      second : ◌≡◌ {A = Again} (record { body = body_runs (setting triggers classes) b n; loop = turn b }) (record { body = runs triggers classes b n; loop = turn b })
      second = λ i. record { body = runs_is triggers classes b n i; loop = turn b }

  rounds_is : (k m t : ℕ) → t ≡ k + m → rounds (setting triggers classes) n t ≡ goes k (rounds (setting triggers classes) n m)
  rounds_is zero m t e = let same : t ≡ m = omega arith in ap (rounds (setting triggers classes) n) same
  rounds_is (suc k) m zero e = absurd (omega arith)
  rounds_is (suc k) m (suc t) e = one_is (rounds (setting triggers classes) n t) (goes k (rounds (setting triggers classes) n m)) (rounds_is k m t (omega arith))

-- what is told of a run: its outcome, its steps and its debug lines
pub data Told : Type 0 where
  Asked : Told
  Came : Outcome → ℕ → List (List ℕ) → Told

abbrev pub told : Trail → Told
told (Asks q) = Asked
told (Ends reply writes) = Came reply.outcome reply.counts.steps reply.debug

-- a block with these triggers and classes
pub trail_of : List TriggerOf → List ClassOf → List StmtOf → Trail
trail_of triggers classes block = block_run (setting triggers classes) (stmt_trees block) []

-- the same, where it goes round at most so often
abbrev pub trail_of_within : ℕ → Again → List TriggerOf → List ClassOf → List StmtOf → Trail
trail_of_within k rest triggers classes block =
    run_of (setting triggers classes) (all_do (stmt_all (setting triggers classes) (goes triggers classes (names_of (setting triggers classes)) k rest) (names_of (setting triggers classes)) block) (first_state []))

-- with these classes alone
abbrev pub trail : List ClassOf → List StmtOf → Trail
trail classes block = trail_of [] classes block

abbrev pub trail_within : ℕ → Again → List ClassOf → List StmtOf → Trail
trail_within k rest classes block = trail_of_within k rest [] classes block

enough_is : (k c : ℕ) → k ≤ 1000000 → (m : ℕ) × (2 * (1000000 + 64000000 + c + 1) ≡ k + m)
enough_is k c le = (2 * (1000000 + 64000000 + c + 1) - k, omega arith)

-- a block that goes round less often than that comes to what its parts do
pub trail_of_in : (k : ℕ) (triggers : List TriggerOf) (classes : List ClassOf) (block : List StmtOf) → k ≤ 1000000 → (rest : Again) × (trail_of triggers classes block ≡ trail_of_within k rest triggers classes block)
unfolding trail_of
trail_of_in k triggers classes block le = of_rest (enough_is k (length (map class_tree classes)) le)
  where
    of_rest : (m : ℕ) × (enough (setting triggers classes).program ≡ k + m) → (rest : Again) × (trail_of triggers classes block ≡ trail_of_within k rest triggers classes block)
    of_rest p = (
      rounds (setting triggers classes) (names_of (setting triggers classes)) p.0,
      (λ i. run_of (setting triggers classes) (does_all (setting triggers classes) (rounds_is triggers classes (names_of (setting triggers classes)) k p.0 (enough (setting triggers classes).program) p.1 i) (names_of (setting triggers classes)) (stmt_trees block) (first_state [])))
          ∙ (λ i. run_of (setting triggers classes) (all_do (stmt_each (setting triggers classes) (goes triggers classes (names_of (setting triggers classes)) k (rounds (setting triggers classes) (names_of (setting triggers classes)) p.0)) (names_of (setting triggers classes)) block i) (first_state []))),
    )

pub ends_of : (k : ℕ) (triggers : List TriggerOf) (classes : List ClassOf) (block : List StmtOf) (t : Trail) → k ≤ 1000000 → ((rest : Again) → trail_of_within k rest triggers classes block ≡ t) → trail_of triggers classes block ≡ t
ends_of k triggers classes block t le h = let c = trail_of_in k triggers classes block le in c.1 ∙ h c.0

pub ends : (k : ℕ) (classes : List ClassOf) (block : List StmtOf) (t : Trail) → k ≤ 1000000 → ((rest : Again) → trail_within k rest classes block ≡ t) → trail classes block ≡ t
ends k classes block t le h = ends_of k [] classes block t le h

-- what is told of a block
abbrev pub run : List ClassOf → List StmtOf → Told
run classes block = told (trail classes block)

abbrev pub within : ℕ → Again → List ClassOf → List StmtOf → Told
within k rest classes block = told (trail_within k rest classes block)

pub comes_in : (k : ℕ) (classes : List ClassOf) (block : List StmtOf) → k ≤ 1000000 → (rest : Again) × (run classes block ≡ within k rest classes block)
comes_in k classes block le = let c = trail_of_in k [] classes block le in (c.0, ap told c.1)

pub comes : (k : ℕ) (classes : List ClassOf) (block : List StmtOf) (t : Told) → k ≤ 1000000 → ((rest : Again) → within k rest classes block ≡ t) → run classes block ≡ t
comes k classes block t le h = let c = comes_in k classes block le in c.1 ∙ h c.0

-- its outcome and its lines alone
abbrev pub plainly : Told → Told
plainly Asked = Asked
plainly (Came o steps lines) = Came o 0 lines

pub says : List ClassOf → List StmtOf → Told
says classes block = plainly (run classes block)

pub tells : (k : ℕ) (classes : List ClassOf) (block : List StmtOf) (t : Told) → k ≤ 1000000 → ((rest : Again) → plainly (within k rest classes block) ≡ t) → says classes block ≡ t
unfolding says
tells k classes block t le h = let c = comes_in k classes block le in ap plainly c.1 ∙ h c.0

-- ---- runs in which so much was charged already

abbrev pub charged_start : List Entry → State
charged_start es = record (first_state []) { world = record ((first_state []).world) { txn = record ((first_state []).world.txn) { charges = es } } }

pub run_behind : List Entry → List ClassOf → List StmtOf → Told
run_behind es classes block = told (run_of (setting [] classes) (block_does (setting [] classes) (stmt_trees block) (charged_start es)))

abbrev pub within_behind : ℕ → Again → List Entry → List ClassOf → List StmtOf → Told
within_behind k rest es classes block =
    told (run_of (setting [] classes) (all_do (stmt_all (setting [] classes) (goes [] classes (names_of (setting [] classes)) k rest) (names_of (setting [] classes)) block) (charged_start es)))

pub comes_behind : (k : ℕ) (es : List Entry) (classes : List ClassOf) (block : List StmtOf) (t : Told) → k ≤ 1000000 → ((rest : Again) → within_behind k rest es classes block ≡ t) → run_behind es classes block ≡ t
unfolding run_behind
comes_behind k es classes block t le h = of_rest (enough_is k (length (map class_tree classes)) le)
  where
    of_rest : (m : ℕ) × (enough (setting [] classes).program ≡ k + m) → run_behind es classes block ≡ t
    of_rest p =
        (λ i. told (run_of (setting [] classes) (does_all (setting [] classes) (rounds_is [] classes (names_of (setting [] classes)) k p.0 (enough (setting [] classes).program) p.1 i) (names_of (setting [] classes)) (stmt_trees block) (charged_start es))))
        ∙ (λ i. told (run_of (setting [] classes) (all_do (stmt_each (setting [] classes) (goes [] classes (names_of (setting [] classes)) k (rounds (setting [] classes) (names_of (setting [] classes)) p.0)) (names_of (setting [] classes)) block i) (charged_start es))))
        ∙ h (rounds (setting [] classes) (names_of (setting [] classes)) p.0)

-- ---- in short

abbrev pub class : List ℕ → ClassOf
class name = record { name = name; parent = Parent.Nothing; interfaces = []; sharing = None; implied = None; fields = []; methods = []; constructors = [] }

abbrev pub child : List ℕ → ℕ → ClassOf
child name c = record (class name) { parent = Parent.Class c; implied = Some (record { class = c; constructor = By.Implied }) }

abbrev pub method : List ℕ → ℕ → Bool → List StmtOf → MethodOf
method name params is_static ks = record { name = name; params = params; is_static = is_static; body = Some ks }

abbrev pub static_of : ExprOf → FieldOf
static_of e = record { is_static = true; value = Some e }

abbrev pub own_of : ExprOf → FieldOf
own_of e = record { is_static = false; value = Some e }

abbrev pub constructor : CallOf → List StmtOf → ConstructorOf
constructor parent ks = record { parent = parent; stmts = ks }
