-- What is said of a step of the running machine.
use Rattle.std.specs.Prelude.{◌≡◌, ◌≤◌, ◌<◌, ℕ, ◌+◌, List, [], ◌∷◌, length, Option, None, Some, Result, Ok, Err}
use Rattle.request_states.specs.Values.{null}
use Rattle.apex_num.specs.declared.kind.LimitKind.{LimitKind}
use Rattle.apex_num.specs.declared.kind.LimitKind.TheVariants.{Alloc}
use Rattle.limit_meter.specs.Charges.{limit_of, count_of, with_count}
use Rattle.tenant_trails.specs.Runs as Trail
use Rattle.txn_heap.specs.declared.thing.Value.{Value}
use Rattle.stack_code.specs.declared.state.Config.{Config}
use Rattle.stack_code.specs.Machine.{Next, Goes, Asks, Over, limited, with_txn}
use Rattle.program_things.specs.declared.moved.Moved.{Moved}
use Rattle.program_things.specs.declared.moved.Moved.TheVariants as S

-- the next one of the definition, what was said of the step, and the state behind it; the steps aren't counted here
abbrev pub IsStep : Next → Moved → Config → Type 0
IsStep next S.Went d = next ≡ Goes d
IsStep next (S.Asked q) d = next ≡ Asks q
IsStep next (S.Halted l) d = next ≡ limited l.kind l.number d.world
IsStep next (S.Over reply writes) d = (next ≡ Over (Trail.Ends reply writes)) × (reply.ops ≡ 0)

-- a state that asks waits as it is
abbrev pub Stays : Config → Moved → Config → Type 0
Stays c (S.Asked q) d = d ≡ c
Stays c _ d = Unit {0}

-- n more of a kind are charged
abbrev pub paid : LimitKind → ℕ → Config → Config
paid k n c = with_txn c (record (c.world.txn) { meter = with_count c.world.txn.meter k (count_of c.world.txn.meter k + n) })

-- n of a kind are charged, or the request is over
abbrev pub Charges : LimitKind → ℕ → Config → Option Moved → Config → Type 0
Charges k n c None d = (count_of c.world.txn.meter k + n ≤ limit_of k) × (d ≡ paid k n c)
Charges k n c (Some m) d = (limit_of k < count_of c.world.txn.meter k + n) × IsStep (limited k (limit_of k + 1) c.world) m d

-- the value on top, null where there is none, and what lies under it
abbrev pub Takes : List Value → Value → List Value → Type 0
Takes [] v rest = (v ≡ null) × (rest ≡ [])
Takes (x ∷ xs) v rest = (v ≡ x) × (rest ≡ xs)

-- a text of so many bytes is charged, where one is made
abbrev pub ChargesSize : Option ℕ → Config → Option Moved → Config → Type 0
ChargesSize None c m d = (m ≡ None) × (d ≡ c)
ChargesSize (Some n) c m d = Charges Alloc (16 + n) c m d

-- a text was made and its units are paid, 16 and one for each byte, or the request is over
abbrev pub ChargesText : List ℕ → Config → Result (List ℕ) Moved → Config → Type 0
ChargesText text c (Ok made) d = (made ≡ text) × Charges Alloc (16 + length text) c None d
ChargesText text c (Err m) d = Charges Alloc (16 + length text) c (Some m) d
