-- Bodies of classes, and the rounds that suffice.
use Rattle.std.proofs.Common.{ℕ, zero, suc, ◌+◌, ◌*◌, ◌≤◌, Bool, true, false, List, [], ◌∷◌, map, Option, None, Some, arith}
use Rattle.apex_num.specs.declared.kind.LimitKind.TheVariants.{Steps}
use Rattle.save_meaning.specs.Results.{Gives, bind}
use Rattle.request_states.specs.Runs.{Setting}
use Rattle.request_states.specs.States.{State, Res, charge}
use Rattle.txn_heap.specs.Statics.{with_static}
use Rattle.txn_heap.specs.declared.thing.Value.{Value}
use Rattle.typed_program.specs.declared.expr.TypedExpr.{TypedExpr}
use Rattle.typed_program.specs.declared.stmt.TypedStmt.{TypedStmt}
use Rattle.typed_program.specs.declared.unit.ParentCall.{ParentCall}
use Rattle.typed_program.specs.declared.unit.ParentCall.TheVariants as P
use Rattle.typed_program.specs.declared.unit.TypedConstructor.{TypedConstructor}
use Rattle.typed_program.specs.declared.unit.TypedField.{TypedField}
use Rattle.apex_meaning.specs.Bodies as B
use Rattle.apex_meaning.specs.Bodies.{rounds, enough, body_runs}
use Rattle.apex_meaning.specs.Classes.{and_fields, code_of, constructor_at, field_place, fields_at, no_starts, Starts, starts, trigger_at}
use Rattle.apex_meaning.specs.Expressions.{value_of}
use Rattle.apex_meaning.specs.Meanings.{Again, Body, Method, Constructor, Fields, Statics, Trigger, Do, Test, looping, returned}
use Rattle.apex_meaning.specs.Preparing as Prep
use Rattle.apex_meaning.specs.Preparing.{with_statics}
use Rattle.apex_meaning.specs.Statements.{does_all}
use Rattle.language_laws.proofs.Paid.{Paid as From, Each, none, more, paid_gives, paid_puts, paid_bind, paid_less, paid_none, freely, paid_charge, paid_step, paid_in, paid_returned, paid_all_of, paid_cond, paid_looping}
use Rattle.language_laws.proofs.Classes.{Enough, EnoughFields, paid_started, paid_constructed, paid_message}
use Rattle.language_laws.proofs.Places.{paid_set_field}
use Rattle.language_laws.proofs.Prepared.{stay_written}
use Rattle.language_laws.proofs.Stmts.{paid_stmts}
use Rattle.language_laws.proofs.Trees.{paid_expr}
use Rattle.language_laws.proofs.Worlds.{later_statics, most_spent}

module _ (setting : Setting) (again : Again) (names : List (List ℕ)) (p : ℕ) (enough_for : Enough setting.program again p) where
  abbrev Paid : {A : Type 0} → (State → Res A) → Type 0
  Paid f = From setting.program (suc p) f

  gives : {A : Type 0} (a : State → A) → Paid (λ st. Gives (a st) st)
  gives a = paid_gives setting.program (suc p) a

  value : (e : TypedExpr) → Paid (value_of setting again names e)
  value e = paid_expr setting again names p enough_for e

  each_value : (es : List TypedExpr) → Each setting.program (suc p) (map (value_of setting again names) es)
  each_value [] = none
  each_value (e ∷ es) = more (value e) (each_value es)

  values : (es : List TypedExpr) → Paid (B.values setting again names es)
  values es = paid_all_of setting.program (suc p) _ (each_value es)

  -- ---- initial values

  initial_field : (c k : ℕ) (b : Bool) (o : Option TypedExpr) → Paid (B.initial_field setting again names c k b o)
  initial_field c k false (Some e) =
      paid_bind setting.program (suc p) (value_of setting again names e) _ (value e)
      (λ v. record { at = λ st s lt. (paid_set_field setting.program (suc p) (field_place setting.program c k) st.here.this v).at st s lt })
  initial_field c k false None = gives (λ s. tt)
  initial_field c k true o = gives (λ s. tt)

  initial_fields : (c k : ℕ) (fs : List TypedField) → Paid (B.initial_fields setting again names c k fs)
  initial_fields c k [] = gives (λ s. tt)
  initial_fields c k (f ∷ fs) = paid_bind setting.program (suc p) (B.initial_field setting again names c k f.is_static f.value) _ (initial_field c k f.is_static f.value) (λ u. initial_fields c (suc k) fs)

  initial_static : (c k : ℕ) (b : Bool) (o : Option TypedExpr) → Paid (B.initial_static setting again names c k b o)
  initial_static c k true (Some e) =
      paid_bind setting.program (suc p) (value_of setting again names e) _ (value e)
      (λ v. paid_puts setting.program (suc p) (λ s. tt) (λ s. with_statics (with_static c k v s.world.statics) s) (λ s h. later_statics setting.program s.world _ h (stay_written c k v s.world.statics)))
  initial_static c k true None = gives (λ s. tt)
  initial_static c k false o = gives (λ s. tt)

  initial_statics : (c k : ℕ) (fs : List TypedField) → Paid (B.initial_statics setting again names c k fs)
  initial_statics c k [] = gives (λ s. tt)
  initial_statics c k (f ∷ fs) = paid_bind setting.program (suc p) (B.initial_static setting again names c k f.is_static f.value) _ (initial_static c k f.is_static f.value) (λ u. initial_statics c (suc k) fs)

  -- the initial values of fields run no other initial values but behind a charge
  fields_run : (c : ℕ) (args : List Value) (this : Value) → Paid (body_runs setting again names (Fields c) args this)
  fields_run c args this =
      paid_in setting.program (suc p) (λ st. B.activation setting again names (Fields c) args this st.here) (λ s. returned (B.body_does setting again names (Fields c) s))
      (paid_returned setting.program (suc p) (B.body_does setting again names (Fields c)) (initial_fields c 0 (fields_at setting.program c)))

  -- ---- constructors

  module _ (fielded : EnoughFields setting.program again (suc p)) where
    within : suc p ≤ suc p
    within = omega arith

    own_fields : (ss : Starts) (c : ℕ) → Paid (B.own_fields setting again names ss c)
    own_fields ss c = record { at = λ st s lt. (paid_started setting.program again p enough_for (suc p) within fielded st.here.this (and_fields ss c)).at st s lt }

    step : Paid (charge Steps 1)
    step = paid_charge setting.program (suc p) Steps 1 (freely setting.program)

    begins : (c : ℕ) (call : ParentCall) → Paid (B.begins setting again names c call)
    begins c P.Nothing = own_fields no_starts c
    begins c (P.Implied i) = own_fields (starts setting.program (Some i)) c
    begins c (P.Super q k es) =
        paid_bind setting.program (suc p) (charge Steps 1) _ step
        (λ u. paid_bind setting.program (suc p) (B.values setting again names es) _ (values es)
        (λ args. paid_bind setting.program (suc p) (λ s1. Prep.constructed setting.program again q k args s1.here.this s1) _
        (record { at = λ st s lt. (paid_constructed setting.program again p enough_for (suc p) within fielded q k args st.here.this).at st s lt }) (λ u1. own_fields no_starts c)))
    begins c (P.Exception es) =
        paid_bind setting.program (suc p) (charge Steps 1) _ step
        (λ u. paid_bind setting.program (suc p) (B.values setting again names es) _ (values es)
        (λ args. record { at = λ st s lt. (paid_message setting.program again p enough_for (suc p) within fielded st.here.this args (B.own_fields setting again names no_starts c) (own_fields no_starts c)).at st s lt }))
    begins c (P.This k es) =
        paid_bind setting.program (suc p) (charge Steps 1) _ step
        (λ u. paid_bind setting.program (suc p) (B.values setting again names es) _ (values es)
        (λ args. record { at = λ st s lt. (paid_constructed setting.program again p enough_for (suc p) within fielded c k args st.here.this).at st s lt }))

    constructs : (c : ℕ) (o : Option TypedConstructor) → Paid (B.constructs setting again names c o)
    constructs c None = gives (λ s. tt)
    constructs c (Some k) = paid_bind setting.program (suc p) (B.begins setting again names c k.parent) _ (begins c k.parent) (λ u. paid_stmts setting again names p enough_for k.stmts)

    -- ---- bodies

    method_does : (o : Option (List TypedStmt)) → Paid (B.method_does setting again names o)
    method_does None = gives (λ s. tt)
    method_does (Some ss) = paid_stmts setting again names p enough_for ss

    body_does : (b : Body) → Paid (B.body_does setting again names b)
    body_does (Method c m) = method_does (code_of setting.program c m)
    body_does (Constructor c k) = constructs c (constructor_at setting.program c k)
    body_does (Fields c) = initial_fields c 0 (fields_at setting.program c)
    body_does (Statics c) = initial_statics c 0 (fields_at setting.program c)
    body_does (Trigger k) = method_does (trigger_at setting.program k)

    body_run : (b : Body) (args : List Value) (this : Value) → Paid (body_runs setting again names b args this)
    body_run b args this =
        paid_in setting.program (suc p) (λ st. B.activation setting again names b args this st.here) (λ s. returned (B.body_does setting again names b s))
        (paid_returned setting.program (suc p) (B.body_does setting again names b) (body_does b))

module _ (setting : Setting) (names : List (List ℕ)) where
  -- ---- loops: each turn pays for the next one

  loops : (r n : ℕ) (condition : Test) (body next : Do) → n ≤ r → From setting.program n condition → From setting.program n body → From setting.program n next → From setting.program n ((rounds setting names r).loop condition body next)
  loops r zero condition body next le h k l = paid_none setting.program _
  loops zero (suc m) condition body next le h k l = absurd (omega arith)
  loops (suc r) (suc m) condition body next le h k l =
      let lt : m ≤ suc m = omega arith in
      let h1 = paid_less setting.program m (suc m) condition lt h in
      let k1 = paid_less setting.program m (suc m) body lt k in
      let l1 = paid_less setting.program m (suc m) next lt l in
      let rest = loops r m condition body next (omega arith) h1 k1 l1 in
      paid_step setting.program m _
      (paid_bind setting.program m condition _ h1
      (λ go. paid_cond setting.program m go (λ s1. looping (body s1) (λ s2. bind (next s2) (λ u1 s3. (rounds setting names r).loop condition body next s3))) (λ s1. Gives tt s1)
      (paid_looping setting.program m body _ k1 (paid_bind setting.program m next _ l1 (λ u1. rest)))
      (paid_gives setting.program m (λ s. tt))))

  -- ---- bodies: a charge pays for two rounds, that of a constructor and that of the initial values of its fields

  enough_rounds : (p r : ℕ) → p + p + 1 ≤ r → Enough setting.program (rounds setting names r) p
  enough_rounds zero r le = record {
    loop = λ condition body next h k l. loops r 1 condition body next (omega arith) h k l;
    body = λ b args this. paid_none setting.program _;
  }
  enough_rounds (suc q) zero le = absurd (omega arith)
  enough_rounds (suc q) (suc zero) le = absurd (omega arith)
  enough_rounds (suc q) (suc (suc r)) le =
      let one : Enough setting.program (rounds setting names (suc r)) q = enough_rounds q (suc r) (omega arith) in
      let two : Enough setting.program (rounds setting names r) q = enough_rounds q r (omega arith) in
      record {
        loop = λ condition body next h k l. loops (suc (suc r)) (suc (suc q)) condition body next (omega arith) h k l;
        body = λ b args this. body_run setting (rounds setting names (suc r)) names q one (record { fields = λ c this. fields_run setting (rounds setting names r) names q two c [] this }) b args this;
      }

  twice : (n : ℕ) → n + n + 1 ≤ 2 * (n + 1)
  twice n = omega arith

  -- so the rounds of a block suffice
  pub paid_block : (block : List TypedStmt) → From setting.program (suc (most_spent setting.program)) (does_all setting (rounds setting names (enough setting.program)) names block)
  paid_block block =
      paid_stmts setting (rounds setting names (enough setting.program)) names (most_spent setting.program) (enough_rounds (most_spent setting.program) (enough setting.program) (twice (most_spent setting.program))) block
