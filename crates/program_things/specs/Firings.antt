-- A trigger that fires in a save, and what its firing came to.
use Rattle.std.specs.Prelude.{◌≡◌, ℕ, List, [], Option, None, Some}
use Rattle.apex_num.specs.declared.kind.LimitKind.TheVariants.{Alloc, Depth, Steps}
use Rattle.apex_requests.specs.declared.request.Context.{Context}
use Rattle.apex_requests.specs.declared.request.Ticket.{Ticket}
use Rattle.apex_schema.specs.declared.schema.Schema.{Schema}
use Rattle.save_meaning.specs.declared.run.TxnState.{TxnState}
use Rattle.save_measures.specs.Paid.{IsPaid}
use Rattle.save_statements.specs.declared.run.SaveRun.{SaveRun}
use Rattle.tenant_trails.specs.Runs as Trail
use Rattle.txn_heap.specs.declared.thing.Ref.{Ref}
use Rattle.txn_heap.specs.declared.thing.Value.TheVariants.{Object}
use Rattle.stack_code.specs.Calls.{enter}
use Rattle.stack_code.specs.Machine.{Next, Goes, Over, charged, with_txn}
use Rattle.stack_code.specs.Steps.{fire_next}
use Rattle.stack_code.specs.declared.image.Image.{Image}
use Rattle.stack_code.specs.declared.state.After.TheVariants as A
use Rattle.stack_code.specs.declared.state.BodyAt.TheVariants as B
use Rattle.stack_code.specs.declared.state.Config.{Config}
use Rattle.stack_code.specs.declared.state.Firing.{Firing}
use Rattle.stack_code.specs.declared.state.Mode.TheVariants as M
use Rattle.program_things.specs.Saves.{BehindSave, GoesTo, IsStepTo, cost, step_of}
use Rattle.program_things.specs.Steps.{IsStep}
use Rattle.program_things.specs.declared.moved.Moved.{Moved}
use Rattle.program_things.specs.declared.moved.SaveStop.{SaveStop}
use Rattle.program_things.specs.declared.moved.SaveStop.TheVariants as Stop

-- ---- charges

abbrev pub step_charged : ℕ → Config → (Config → Next) → Next
step_charged n c go = charged Steps 1 c (λ e. charged Alloc n e go)

-- a firing is charged, and then goes on
abbrev pub firing_charged : ℕ → Config → (Config → Next) → Next
firing_charged n c go = charged Depth 1 c (λ d. step_charged n d go)

-- the request is over
abbrev pub IsOver : Next → Moved → Config → Type 0
IsOver next m d = (end : Trail.Run) × (next ≡ Over end) × IsStep (Over end) m d

-- what is charged so is charged, and nothing else of the state changes; or the request is over
abbrev pub ChargesBy : (Config → (Config → Next) → Next) → Config → Option Moved → Config → Type 0
ChargesBy charging c None d = ((go : Config → Next) → charging c go ≡ go d) × ((t : TxnState) × (d ≡ with_txn c t))
ChargesBy charging c (Some m) d = (go : Config → Next) → IsOver (charging c go) m d

-- ---- a firing begins

-- the frame of the trigger, on top of the others
abbrev pub entered : Image → ℕ → Ref → Firing → Config → Config
entered image n this f d = enter image (B.Trigger n) [] (Object this) (A.Fired f) d.top.here d

-- the things of a firing are made, and all but its frame is there
abbrev pub Begins : Next → Image → SaveStop → Config → Type 0
Begins next image (Stop.Fires n this f) d = (next ≡ Goes (entered image n this f d)) × (d.mode ≡ M.Running)
Begins next image (Stop.Moved m) d = IsOver next m d

module _ (schema : Schema) (ticket : Ticket) (image : Image) where
  -- behind steps of a save, none of which counts, a trigger fires, which counts as one step: behind it the frame of the trigger is
  -- entered. The frames were as they are, and what the request has was paid for
  pub record IsFired (c : Config) (n : ℕ) (this : Ref) (f : Firing) (d : Config) : Type 0 where
    pub moves : ℕ
    pub last : Config
    pub places : List ℕ
    pub run : SaveRun
    pub number : ℕ
    pub fires : Context
    pub goes : GoesTo schema ticket image moves c last
    pub steps : step_of schema ticket image last ≡ fire_next (record { schema = schema; ticket = ticket }) image places run number fires last
    pub does : step_of schema ticket image last ≡ Goes (entered image n this f d)
    pub counts : cost last.mode (step_of schema ticket image last) ≡ 1
    pub saves : last.mode ≡ M.Saving places run
    pub top : last.top ≡ c.top
    pub below : last.below ≡ c.below
    pub paid : IsPaid last.world.txn

  -- to where a save stops
  abbrev pub SavesTo : Config → SaveStop → Config → Type 0
  SavesTo c (Stop.Moved m) d = IsStepTo schema ticket image c m d
  SavesTo c (Stop.Fires n this f) d = IsFired c n this f d

-- behind the stop
abbrev pub BehindStop : Config → SaveStop → Config → Type 0
BehindStop c (Stop.Moved m) d = BehindSave c m d
BehindStop c (Stop.Fires n this f) d = (d.top ≡ c.top) × (d.below ≡ c.below)
