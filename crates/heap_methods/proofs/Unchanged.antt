-- What may not be changed.
use Rattle.std.proofs.Common.{◌≡◌, Bool, true, Option, None, Some, Result, Ok, Err, refl, sym, ap, subst, ◌∙◌}
use Rattle.builtin_table.specs.declared.exception.BuiltinEnd.{BuiltinEnd}
use Rattle.txn_heap.specs.declared.thing.Thing.{Thing}
use Rattle.txn_heap.specs.declared.thing.Thing.TheVariants as T
use Rattle.heap_methods.specs.declared.plan.Plan.{Plan}
use Rattle.heap_methods.specs.declared.plan.Plan.TheVariants as P
use Rattle.heap_methods.specs.Methods.{unchanging, if_stays}
use Rattle.heap_methods.specs.Outcomes.{Outcome, read_only}
use Rattle.heap_methods.specs.Plans.{planned, Plans, FailsBy}

plan_stays : (plan : Plan) (thing : Option Thing) → unchanging (planned plan thing) ≡ read_only
plan_stays (P.Tells v) thing = refl
plan_stays (P.Joins between) (Some (T.List xs)) = refl
plan_stays (P.Joins between) _ = refl
plan_stays (P.Changes change v) None = refl
plan_stays (P.Changes change v) (Some thing) = refl
plan_stays (P.Replaces new v) thing = refl
plan_stays (P.Makes new) thing = refl

pub planned_stays : (o : Outcome) (thing : Option Thing) (r : Result Plan BuiltinEnd) (plan : Plan) (end : BuiltinEnd) → r ≡ Ok plan → FailsBy read_only end → Plans o thing r → FailsBy (unchanging o) end
planned_stays o thing r plan end is h p =
    let e : o ≡ planned plan thing = subst (Plans o thing) is p in
    subst (λ x. FailsBy x end) (sym (ap unchanging e ∙ plan_stays plan thing)) h

pub failed_stays : (o : Outcome) (thing : Option Thing) (r : Result Plan BuiltinEnd) (end : BuiltinEnd) → r ≡ Err end → Plans o thing r → FailsBy o end
failed_stays o thing r end is p = subst (Plans o thing) is p

pub stays_so : (stays : Bool) (o : Outcome) (thing : Option Thing) (r : Result Plan BuiltinEnd) → stays ≡ true → Plans (unchanging o) thing r → Plans (if_stays stays o) thing r
stays_so stays o thing r e h = subst (λ b. Plans (if_stays b o) thing r) (sym e) h
