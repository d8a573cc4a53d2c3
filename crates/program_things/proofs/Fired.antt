-- Charges one behind the other, and what a firing begins with.
use Rattle.std.proofs.Common.{◌≡◌, ℕ, List, ◌++◌, length, Option, Some, None, Result, Ok, Err, IfOk, sym, ap, subst, ◌∙◌}
use Rattle.std.proofs.lemmas.Bool.{lt-leb}
use Rattle.apex_num.specs.declared.kind.LimitKind.{LimitKind}
use Rattle.apex_requests.specs.declared.request.Context.{Context}
use Rattle.save_meaning.specs.Sites.{Site}
use Rattle.save_meaning.specs.declared.run.TxnState.{TxnState}
use Rattle.save_statements.specs.declared.run.SaveRun.{SaveRun}
use Rattle.stack_code.specs.Machine.{Next, charged, charged_if, in_mode, with_heap, with_txn}
use Rattle.stack_code.specs.Steps.{fired_on}
use Rattle.stack_code.specs.declared.image.Image.{Image}
use Rattle.stack_code.specs.declared.state.Config.{Config}
use Rattle.stack_code.specs.declared.state.Firing.{Firing}
use Rattle.stack_code.specs.declared.state.Mode.TheVariants as M
use Rattle.trigger_things.specs.Things.{own_rows, things, this_place}
use Rattle.txn_heap.specs.declared.thing.Ref.{Ref}
use Rattle.txn_heap.specs.declared.thing.Thing.{Thing}
use Rattle.program_things.specs.declared.moved.Moved.{Moved}
use Rattle.program_things.specs.declared.moved.Moved.TheVariants as S
use Rattle.program_things.specs.declared.moved.SaveStop.{SaveStop}
use Rattle.program_things.specs.declared.moved.SaveStop.TheVariants as Stop
use Rattle.program_things.specs.Firings.{Begins, BehindStop, ChargesBy, IsOver, entered}
use Rattle.program_things.specs.Saves.{BehindSave}
use Rattle.program_things.specs.Steps.{Charges}
use Rattle.program_things.proofs.Advancing.{over_behind}
use Rattle.program_things.proofs.Charged.{behind_paid}

-- ---- charges

-- one charge
pub only : (k : LimitKind) (n : ℕ) (c : Config) (r : Option Moved) (d : Config) → Charges k n c r d → ChargesBy (charged k n) c r d
only k n c None d h = (λ go. behind_paid k n c d go h, (_, h.1))
only k n c (Some m) d h = λ go. (_, ap (λ b. charged_if b k n c go) (lt-leb _ _ h.0), h.1)

-- what is charged behind another charge
pub behind : (first second : Config → (Config → Next) → Next) (c e : Config) (r : Option Moved) (d : Config) → ChargesBy first c None e → ChargesBy second e r d → ChargesBy (λ x go. first x (λ y. second y go)) c r d
behind first second c e None d a b = (λ go. a.0 (λ y. second y go) ∙ b.0 go, (b.1.0, b.1.1 ∙ ap (λ x. with_txn x b.1.0) a.1.1))
behind first second c e (Some m) d a b = λ go. let o = b go in (o.0, a.0 (λ y. second y go) ∙ o.1, o.2)

-- where the request is over, nothing else is charged
pub stops : (first second : Config → (Config → Next) → Next) (c : Config) (m : Moved) (d : Config) → ChargesBy first c (Some m) d → ChargesBy (λ x go. first x (λ y. second y go)) c (Some m) d
stops first second c m d a = λ go. a (λ y. second y go)

pub charged_as : (charging : Config → (Config → Next) → Next) (c : Config) (r s : Option Moved) (d : Config) → r ≡ s → ChargesBy charging c r d → ChargesBy charging c s d
charged_as charging c r s d e h = subst (λ x. ChargesBy charging c x d) e h

-- ---- what a firing begins with

pub begun : (site : Site) (image : Image) (places : List ℕ) (run : SaveRun) (n : ℕ) (fires : Context) (c d : Config) (this : Ref) (f : Firing) (first count : ℕ) (heap : List Thing) →
    first ≡ length c.world.heap → count ≡ length (own_rows fires) → heap ≡ c.world.heap ++ things (length c.world.heap) fires → this.place ≡ this_place (length c.world.heap) fires →
    f ≡ record { places = places; run = run; first = first; count = count } → d ≡ in_mode (with_heap c heap) M.Running → fired_on site image places run n fires c ≡ entered image n this f d
begun site image places run n fires c d this f first count heap first_is count_is heap_is this_is f_is d_is =
    let place = length c.world.heap in
    let made : Config = in_mode (with_heap c (c.world.heap ++ things place fires)) M.Running in
    let whole : Firing = record { places = places; run = run; first = place; count = length (own_rows fires) } in
    let fs : whole ≡ f =
    sym (f_is ∙ ap (λ (k : ℕ). record { places = places; run = run; first = k; count = count }) first_is ∙ ap (λ (k : ℕ). record { places = places; run = run; first = place; count = k }) count_is) in
    ap (λ (p : ℕ). entered image n (record { place = p }) whole made) (sym this_is)
    ∙ ap (λ (x : Firing). entered image n this x made) fs
    ∙ ap (λ (h : List Thing). entered image n this f (in_mode (with_heap c h) M.Running)) (sym heap_is)
    ∙ ap (entered image n this f) (sym d_is)

-- behind the charges
pub begins_as : {E : Type 0} (x y : Next) (image : Image) (r : Result SaveStop E) (d : Config) → x ≡ y → IfOk r (λ s. Begins y image s d) → IfOk r (λ s. Begins x image s d)
begins_as x y image r d e h = subst (λ z. IfOk r (λ s. Begins z image s d)) (sym e) h

stop_as : (c e : Config) (t : TxnState) (s : SaveStop) (d : Config) → e ≡ with_txn c t → BehindStop e s d → BehindStop c s d
stop_as c e t (Stop.Fires n this f) d is h = (h.0 ∙ ap (λ (x : Config). x.top) is, h.1 ∙ ap (λ (x : Config). x.below) is)
stop_as c e t (Stop.Moved S.Went) d is h = (h.0 ∙ ap (λ (x : Config). x.top) is, h.1 ∙ ap (λ (x : Config). x.below) is, h.2, h.3)
stop_as c e t (Stop.Moved (S.Asked q)) d is h = (h.0 ∙ ap (λ (x : Config). x.top) is, h.1 ∙ ap (λ (x : Config). x.below) is, h.2, h.3)
stop_as c e t (Stop.Moved (S.Halted l)) d is h = tt
stop_as c e t (Stop.Moved (S.Over reply writes)) d is h = tt

pub stops_as : {E : Type 0} (c e : Config) (t : TxnState) (r : Result SaveStop E) (d : Config) → e ≡ with_txn c t → IfOk r (λ s. BehindStop e s d) → IfOk r (λ s. BehindStop c s d)
stops_as c e t (Ok s) d is h = stop_as c e t s d is h
stops_as c e t (Err x) d is h = tt

pub over_stop : (next : Next) (c d : Config) (m : Moved) → IsOver next m d → BehindSave c m d
over_stop next c d m h = over_behind h.0 c d m h.2
