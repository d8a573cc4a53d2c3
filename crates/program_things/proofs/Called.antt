-- Calls of methods of collections.
use Rattle.std.proofs.Common.{◌≡◌, ℕ, ◌+◌, Bool, true, false, List, Option, Some, None, Result, Ok, Err, refl, sym, ap, subst, ◌∙◌}
use Rattle.std.specs.Prelude.{IfOk, leb, slice_get}
use Rattle.apex_num.specs.declared.kind.LimitKind.TheVariants as K
use Rattle.builtin_table.specs.declared.exception.BuiltinEnd.{BuiltinEnd}
use Rattle.builtin_table.specs.declared.exception.BuiltinEnd.TheVariants as End
use Rattle.builtin_table.specs.declared.exception.ExceptionClass.{ExceptionClass}
use Rattle.builtin_table.specs.declared.method.Builtin.{Builtin as Which}
use Rattle.heap_methods.specs.Methods.{method, outcome, units}
use Rattle.heap_methods.specs.Outcomes.{Outcome, Done, Answers, Fails, done as things_done, units_of}
use Rattle.heap_methods.specs.Plans.{FailsBy, planned}
use Rattle.heap_methods.specs.declared.plan.Plan.{Plan}
use Rattle.limit_meter.specs.Charges.{count_of, limit_of}
use Rattle.platform_errors.specs.declared.thrown.Thrown.TheVariants.{Builtin}
use Rattle.txn_heap.specs.declared.thing.Ref.{Ref}
use Rattle.txn_heap.specs.declared.thing.Thing.{Thing}
use Rattle.txn_heap.specs.declared.thing.Value.{Value}
use Rattle.txn_heap.specs.declared.thing.Value.TheVariants.{Plain, Object}
use Rattle.stack_code.specs.declared.state.Config.{Config}
use Rattle.stack_code.specs.Machine.{Next, charged, charged_if, raise, with_heap}
use Rattle.stack_code.specs.Things.{collection, done_next}
use Rattle.program_things.specs.declared.moved.Moved.{Moved}
use Rattle.program_things.specs.Collects.{Carries, Collects, Throws, ThrowsBy, carried}
use Rattle.program_things.specs.Steps.{Charges, IsStep, paid}
use Rattle.program_things.proofs.Charged.{behind_paid, charged_over}

pub if_ok : {A E : Type 0} (r : Result A E) (P Q : A → Type 0) → ((a : A) → P a → Q a) → IfOk r P → IfOk r Q
if_ok (Ok a) P Q f h = f a h
if_ok (Err e) P Q f h = h

-- a step that is known by another name
pub renamed : {E : Type 0} (r : Result Moved E) (x y : Next) (d : Config) → x ≡ y → IfOk r (λ m. IsStep y m d) → IfOk r (λ m. IsStep x m d)
renamed r x y d e h = subst (λ z. IfOk r (λ m. IsStep z m d)) (sym e) h

-- ---- what is planned

pub carried_over : (o : Outcome) (place : ℕ) (c : Config) (m : Moved) (d : Config) → Charges K.Alloc (units_of (slice_get c.world.heap place) o) c (Some m) d → Carries o place c (Err m) d
carried_over o place c m d h = λ go. charged_over K.Alloc (units_of (slice_get c.world.heap place) o) c _ m d h

pub carried_out : (plan : Plan) (place : ℕ) (c e : Config) (v : Value) (heap : List Thing) → Charges K.Alloc (units_of (slice_get c.world.heap place) (planned plan (slice_get c.world.heap place))) c None e →
    things_done place e.world.heap (planned plan (slice_get e.world.heap place)) ≡ Answers v heap → Carries (planned plan (slice_get c.world.heap place)) place c (Ok v) (with_heap e heap)
carried_out plan place c e v heap h a =
    λ go. behind_paid K.Alloc (units_of (slice_get c.world.heap place) (planned plan (slice_get c.world.heap place))) c e (λ x. done_next (things_done place x.world.heap (planned plan (slice_get c.world.heap place))) x go) h
    ∙ ap (λ things. done_next (things_done place e.world.heap (planned plan (slice_get things place))) e go) (sym (ap (λ (x : Config). x.world.heap) h.1))
    ∙ ap (λ done. done_next done e go) a

-- ---- what throws

pub threw_over : (class : ExceptionClass) (message : List ℕ) (c : Config) (m : Moved) (d : Config) → Charges K.Alloc 0 c (Some m) d → Throws class message c m d
threw_over class message c m d h = λ place before go. charged_over K.Alloc 0 c _ m d h

pub threw : (class : ExceptionClass) (message : List ℕ) (c e : Config) (m : Moved) (d : Config) → Charges K.Alloc 0 c None e → IsStep (raise (Builtin class message) e) m d → Throws class message c m d
threw class message c e m d h s =
    λ place before go. subst (λ x. IsStep x m d) (sym (behind_paid K.Alloc 0 c e (λ x. done_next (things_done place x.world.heap (Fails class message)) x go) h)) s

pub ended_carried : (o : Outcome) (end : BuiltinEnd) (place : ℕ) (c : Config) (m : Moved) (d : Config) → FailsBy o end → ThrowsBy end c m d → Carries o place c (Err m) d
ended_carried o (End.Throw class message) place c m d e h = λ go. subst (λ x. IsStep (carried x place c go) m d) (sym e) (h place (slice_get c.world.heap place) go)
ended_carried o End.NoMemory place c m d e h = absurd h

-- ---- a method of a collection that is there

collection_carried : (which : Which) (r : Ref) (args : List Value) (c : Config) (go : Value → Config → Next) → collection which (Object r) args c go ≡ carried (outcome which r.place args c.world.heap) r.place c go
collection_carried which r args c go = by (leb (count_of c.world.txn.meter K.Alloc + units which r.place args c.world.heap) (limit_of K.Alloc)) where
  by : (b : Bool) → charged_if b K.Alloc (units which r.place args c.world.heap) c (λ d. done_next (method which r.place args d.world.heap) d go)
      ≡ charged_if b K.Alloc (units which r.place args c.world.heap) c (λ d. done_next (things_done r.place d.world.heap (outcome which r.place args c.world.heap)) d go)
  by true = refl
  by false = refl

pub collects_by : (which : Which) (r : Ref) (args : List Value) (c d : Config) (o : Outcome) (got : Result Value Moved) → outcome which r.place args c.world.heap ≡ o → Carries o r.place c got d → Collects which (Object r) args c got d
collects_by which r args c d o (Ok v) e h = λ go. collection_carried which r args c go ∙ ap (λ x. carried x r.place c go) e ∙ h go
collects_by which r args c d o (Err m) e h = λ go. subst (λ x. IsStep x m d) (sym (collection_carried which r args c go ∙ ap (λ x. carried x r.place c go) e)) (h go)

-- ---- what comes behind a call

pub given : (which : Which) (this : Value) (args : List Value) (c d : Config) (v : Value) (got : Result Value Moved) → got ≡ Ok v → Collects which this args c got d → (go : Value → Config → Next) → collection which this args c go ≡ go v d
given which this args c d v got e h go = (subst (λ x. Collects which this args c x d) e h) go

pub ended : (which : Which) (this : Value) (args : List Value) (c d : Config) (m : Moved) (got : Result Value Moved) → got ≡ Err m → Collects which this args c got d → (go : Value → Config → Next) → IsStep (collection which this args c go) m d
ended which this args c d m got e h go = (subst (λ x. Collects which this args c x d) e h) go
