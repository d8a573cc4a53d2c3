-- The state of a request, and how a part of its code comes out.
use Rattle.std.specs.Prelude.{ℕ, zero, suc, List, [], ◌∷◌, ◌++◌, length}
use Rattle.activations.specs.declared.here.Here.{Here}
use Rattle.activations.specs.declared.abrupt.Abrupt.{Abrupt}
use Rattle.activations.specs.declared.abrupt.Abrupt.TheVariants.{Throws}
use Rattle.activations.specs.declared.abrupt.Raised.TheVariants.{Platform}
use Rattle.apex_num.specs.declared.cell.Cell.TheVariants.{Null}
use Rattle.apex_num.specs.declared.kind.LimitKind.{LimitKind}
use Rattle.platform_errors.specs.declared.thrown.Thrown.{Thrown}
use Rattle.save_meaning.specs.Results as R
use Rattle.save_meaning.specs.Results.{Gives, Stops, Leaves, Closes, Unbuilt, leaving}
use Rattle.save_meaning.specs.Transactions as Save
use Rattle.save_meaning.specs.Transactions.{Txn, Keeps}
use Rattle.txn_heap.specs.declared.thing.Thing.{Thing}
use Rattle.txn_heap.specs.declared.thing.Value.{Value}
use Rattle.txn_heap.specs.declared.thing.Value.TheVariants.{Plain, Object}

-- what a request has beside the activation that runs: what saves and queries see, the things that it made, oldest first, the
-- statics of the classes that are prepared, and the debug lines, oldest first
pub record World : Type 0 where
  pub txn : Txn
  pub heap : List Thing
  pub statics : List (ℕ × List Value)
  pub debug : List (List ℕ)

-- the activation of code that runs, and the world
pub record State : Type 0 where
  pub here : Here
  pub world : World

abbrev pub keeps : Keeps State
keeps = record { txn = λ s. s.world.txn; with_txn = λ t s. record s { world = record (s.world) { txn = t } } }

-- how a part of code comes out: it gives something, or it stops, and code is left early
abbrev pub Res : Type 0 → Type 0
Res A = R.Res State Abrupt A

-- what is thrown leaves code
abbrev pub thrown : Thrown → Abrupt
thrown t = Throws (Platform t)

abbrev pub throws : {A : Type 0} → Thrown → State → Res A
throws t st = Stops (Leaves (thrown t)) st

abbrev pub unbuilt : {A : Type 0} → State → Res A
unbuilt st = Stops (Closes Unbuilt) st

-- what a save or a query comes to
abbrev pub saved : {A : Type 0} → R.Res State Thrown A → Res A
saved r = leaving thrown r

abbrev pub charge : LimitKind → ℕ → State → Res (Unit {0})
charge k n st = Save.charge keeps k n st

-- a local has its slot from its declaration on
abbrev pub put_at : ℕ → Value → List Value → List Value
put_at zero v [] = v ∷ []
put_at zero v (w ∷ ws) = v ∷ ws
put_at (suc n) v [] = Plain Null ∷ put_at n v []
put_at (suc n) v (w ∷ ws) = w ∷ put_at n v ws

abbrev pub set_local : ℕ → Value → State → State
set_local x v st = record st { here = record (st.here) { locals = put_at x v st.here.locals } }

abbrev pub with_heap : List Thing → State → State
with_heap things st = record st { world = record (st.world) { heap = things } }

abbrev pub with_line : List ℕ → State → State
with_line text st = record st { world = record (st.world) { debug = st.world.debug ++ text ∷ [] } }

-- a thing is made behind the others, and its number is the value
abbrev pub make : Thing → State → Res Value
make thing st = Gives (Object (record { place = length st.world.heap })) (with_heap (st.world.heap ++ thing ∷ []) st)
