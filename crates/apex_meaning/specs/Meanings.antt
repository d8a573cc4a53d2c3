-- How code is called, is left and goes round (docs/language.md, "What code does").
use Rattle.std.specs.Prelude.{ℕ, Bool, true, false, cond, List, [], ◌∷◌, Option, None, Some}
use Rattle.activations.specs.declared.here.Here.{Here}
use Rattle.activations.specs.declared.abrupt.Abrupt.TheVariants.{Throws, Returns, Breaks, Continues}
use Rattle.apex_num.specs.declared.kind.LimitKind.TheVariants.{Steps, Calls}
use Rattle.platform_errors.specs.declared.thrown.Thrown.TheVariants.{NullObject}
use Rattle.save_meaning.specs.Results.{Gives, Stops, Leaves, Closes, bind}
use Rattle.save_meaning.specs.Transactions.{left}
use Rattle.request_states.specs.States.{State, Res, charge, keeps, throws}
use Rattle.request_states.specs.Values.{null}
use Rattle.txn_heap.specs.declared.thing.Value.{Value}
use Rattle.value_operators.specs.Operators.{Calc, truth}
use Rattle.value_operators.specs.declared.calculated.Calculated.TheVariants.{Val, Fails}

-- what code does from a state on: to a value, with a value, or to nothing but its effect
abbrev pub Run : Type 0
Run = State → Res Value

abbrev pub Behind : Type 0
Behind = Value → State → Res Value

abbrev pub Do : Type 0
Do = State → Res (Unit {0})

-- a condition
abbrev pub Test : Type 0
Test = State → Res Bool

-- a body of code that isn't a block: a method or a declared constructor of a class, the initial values of its fields or of its
-- statics, or a trigger
pub data Body : Type 0 where
  Method : ℕ → ℕ → Body
  Constructor : ℕ → ℕ → Body
  Fields : ℕ → Body
  Statics : ℕ → Body
  Trigger : ℕ → Body

-- the ways back in: a body runs on arguments, and on an instance or null; and a loop makes its next turn, by its condition,
-- what it repeats, and what stands behind that
pub record Again : Type 0 where
  pub body : Body → List Value → Value → Run
  pub loop : Test → Do → Do → Do

-- ---- one part after the other

abbrev pub all_do : List Do → Do
all_do [] st = Gives tt st
all_do (d ∷ ds) st = bind (d st) (λ u s. all_do ds s)

-- the values of parts, from left to right
abbrev pub all_of : List Run → State → Res (List Value)
all_of [] st = Gives [] st
all_of (e ∷ es) st = bind (e st) (λ v s. bind (all_of es s) (λ vs s1. Gives (v ∷ vs) s1))

-- for its effect alone
abbrev pub dropped : Res Value → Res (Unit {0})
dropped r = bind r (λ v s. Gives tt s)

-- a value, or what is thrown in its place
abbrev pub calc : Calc → Run
calc (Val v) st = Gives v st
calc (Fails t) st = throws t st

-- a Boolean that is there; a null throws
abbrev pub known_truth : Option Bool → Test
known_truth None st = throws NullObject st
known_truth (Some b) st = Gives b st

abbrev pub truth_of : Value → Test
truth_of v st = known_truth (truth v) st

abbrev pub test : Run → Test
test e st = bind (e st) truth_of

-- ---- activations

-- in another activation, and back
abbrev pub back : {A : Type 0} → Here → Res A → Res A
back h (Gives a st) = Gives a (record st { here = h })
back h (Stops why st) = Stops why (record st { here = h })

abbrev pub in_here : {A : Type 0} → Here → (State → Res A) → State → Res A
in_here h go st = back st.here (go (record st { here = h }))

-- how a body comes out for its caller
abbrev pub returned : Res (Unit {0}) → Res Value
returned (Gives u st) = Gives null st
returned (Stops (Leaves (Returns v)) st) = Gives v st
returned (Stops (Leaves (Throws r)) st) = Stops (Leaves (Throws r)) st
returned (Stops (Leaves Breaks) st) = Gives null st
returned (Stops (Leaves Continues) st) = Gives null st
returned (Stops (Closes f) st) = Stops (Closes f) st

-- a call of a declared method or constructor is open while its code runs
abbrev pub no_longer_open : {A : Type 0} → Res A → Res A
no_longer_open (Gives a st) = Gives a (left keeps Calls st)
no_longer_open (Stops (Leaves why) st) = Stops (Leaves why) (left keeps Calls st)
no_longer_open (Stops (Closes f) st) = Stops (Closes f) st

abbrev pub called : Run → Run
called go st = bind (charge Calls 1 st) (λ u s. bind (charge Steps 1 s) (λ u1 s1. no_longer_open (go s1)))

-- ---- loops

-- behind what a loop repeats: `continue` goes on, `break` ends the loop
abbrev pub looping : Res (Unit {0}) → Do → Res (Unit {0})
looping (Gives u st) go = go st
looping (Stops (Leaves Continues) st) go = go st
looping (Stops (Leaves Breaks) st) go = Gives tt st
looping (Stops (Leaves (Throws r)) st) go = Stops (Leaves (Throws r)) st
looping (Stops (Leaves (Returns v)) st) go = Stops (Leaves (Returns v)) st
looping (Stops (Closes f) st) go = Stops (Closes f) st

-- one turn of a loop, and the others; each test costs a step
abbrev pub turn : Again → Test → Do → Do → Do
turn again condition body next st =
    bind (charge Steps 1 st) (λ u s.
    bind (condition s) (λ go s1.
    cond go (looping (body s1) (λ s2. bind (next s2) (λ u1 s3. again.loop condition body next s3))) (Gives tt s1)))

-- ---- exceptions

-- what stands behind `finally` runs after every completion but an end that nothing sees, and its own jump replaces that
abbrev pub finally : Res (Unit {0}) → Do → Res (Unit {0})
finally (Gives u st) go = go st
finally (Stops (Leaves why) st) go = bind (go st) (λ u s. Stops (Leaves why) s)
finally (Stops (Closes f) st) go = Stops (Closes f) st
