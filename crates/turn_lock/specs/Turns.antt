-- The rule of the turn lock.
-- A lock keeps a value that stands for a list of entries. Word 0, the gate, is 2c while the turn is free and 2c + 1 while
-- a pass has it; c is the number of entries. Word 1 is the number of passes that have their number. Between any two steps
-- there is one list of entries, the log, and all that follows holds of it.
use Rattle.std.specs.Prelude.{◌≡◌, ◌≢◌, ◌⊎◌, ℕ, ◌+◌, ◌*◌, ◌^◌, ◌<◌, ◌≤◌, List, [], ◌∷◌, ◌++◌, length, Option, Some, None, nat_lt, cond, slice_get, Contains}
use mathlib.Core.Option.{none, some}
use mathlib.Core.List.{IsPrefix}
use lib.ListN.{get_elem?}
use Rattle.atomic_table.specs.Table.{State, Me, Step}
use Rattle.turn_lock.specs.declared.view.View.{View}

-- the entries of these numbers lie among the first n
abbrev pub OwnWithin : {E : Type 0} → (E → ℕ) → List ℕ → List E → ℕ → Type 0
OwnWithin {E} number_of numbers log n = (k : ℕ) (e : E) → slice_get log k ≡ Some e → Contains numbers (number_of e) → k < n

-- the entries from place n on are of these numbers
abbrev pub OwnAfter : {E : Type 0} → (E → ℕ) → List ℕ → List E → ℕ → Type 0
OwnAfter {E} number_of numbers log n = (k : ℕ) (e : E) → slice_get log k ≡ Some e → n ≤ k → Contains numbers (number_of e)

-- of two lists the longer one, and the other
abbrev pub longer : {E : Type 0} → List E → List E → List E
longer xs ys = cond (nat_lt (length xs) (length ys)) ys xs

abbrev pub shorter : {E : Type 0} → List E → List E → List E
shorter xs ys = cond (nat_lt (length xs) (length ys)) xs ys

-- P holds of each view, with its place
abbrev pub Each : {V : Type 0} → (ℕ → V → Type 0) → List V → Type 0
Each {V} P views = (j : ℕ) (v : V) → get_elem? views j ≡ some v → P j v

-- ---- views

module _ {T E : Type 0} where
  -- the view of a pass: the passes that were asked for, the opening value, the numbers, the entries seen and those that a pass taken in had seen, and the entries at the begin of the turn
  abbrev pub view : ℕ → Option T → List ℕ → List E → List E → Option (List E) → View T E
  view passes opened numbers seen also turn = record { passes = passes; opened = opened; numbers = numbers; seen = seen; also = also; turn = turn }

  -- the view of a pass that was taken in
  abbrev pub spent : View T E
  spent = view 0 None [] [] [] None

  abbrev pub first_view : ℕ → T → View T E
  first_view passes opened = view passes (Some opened) [] [] [] None

  -- a new pass with no number
  abbrev pub split_off : View T E → View T E
  split_off v = view v.passes v.opened [] v.seen [] None

  -- a pass that took in another
  abbrev pub joined : View T E → View T E → View T E
  joined v w = view v.passes v.opened (v.numbers ++ w.numbers) (longer v.seen w.seen) (shorter v.seen w.seen) None

  abbrev pub with_number : View T E → ℕ → View T E
  with_number v n = view v.passes v.opened (n ∷ []) v.seen [] None

  abbrev pub with_turn : View T E → List E → View T E
  with_turn v log = view v.passes v.opened v.numbers v.seen [] (Some log)

  abbrev pub after_turn : View T E → List E → View T E
  after_turn v log = view v.passes v.opened v.numbers log [] None

  -- the view is that of a pass of a lock with so many passes and this opening value
  abbrev pub IsLiving : ℕ → T → View T E → Type 0
  IsLiving passes opened v = (v.passes ≡ passes) × (v.opened ≡ Some opened)

  -- a number that two views have makes them one
  abbrev pub Apart : ℕ → View T E → ℕ → View T E → Type 0
  Apart i v j w = (n : ℕ) → Contains v.numbers n → Contains w.numbers n → i ≡ j

-- ---- the rule

module _ {T E : Type 0} (entries : T → List E) (HasSameBasis : T → T → Type 0) (number_of : E → ℕ) where
  -- what holds of the views, where so many passes have their number
  pub record Views (passes : ℕ) (opened : T) (given : ℕ) (log : List E) (views : List (View T E)) : Type 0 where
    pub living : Each (λ _ v. (v ≡ spent) ⊎ IsLiving passes opened v) views
    pub seen : Each (λ _ v. IsPrefix v.seen log) views
    pub also : Each (λ _ v. IsPrefix v.also log) views
    pub given_before : Each (λ _ v. (n : ℕ) → Contains v.numbers n → n < given) views
    pub apart : Each (λ i v. Each (λ j w. Apart i v j w) views) views
    pub within : Each (λ _ v. OwnWithin number_of v.numbers log (length v.seen)) views

  -- the turn is free: the value lies in the slot
  pub record Free (gate : ℕ) (log : List E) (opened : T) (homes : List (mathlib.Core.Option.Option (Option T))) (views : List (View T E)) : Type 0 where
    pub even : gate ≡ 2 * length log
    pub value : T
    pub home : homes ≡ some (Some value) ∷ []
    pub stands : entries value ≡ log
    pub basis : HasSameBasis opened value
    pub nobody : Each (λ _ v. v.turn ≡ None) views

  -- one pass has the turn and the slot, and it has a number
  pub record Taken (gate : ℕ) (log : List E) (homes : List (mathlib.Core.Option.Option (Option T))) (views : List (View T E)) : Type 0 where
    pub odd : gate ≡ 2 * length log + 1
    pub away : homes ≡ none ∷ []
    pub by : ℕ
    pub holder : View T E
    pub there : get_elem? views by ≡ some holder
    pub turn : holder.turn ≡ Some log
    pub numbered : holder.numbers ≢ []
    pub alone : Each (λ j v. j ≢ by → v.turn ≡ None) views

  pub record Stands (passes : ℕ) (opened : T) (s : State (Option T) (View T E)) : Type 0 where
    pub gate : ℕ
    pub given : ℕ
    pub log : List E
    pub words : s.words ≡ gate ∷ given ∷ []
    pub phase : Free gate log opened s.homes s.views ⊎ Taken gate log s.homes s.views
    pub short : length log < 2 ^ 62
    pub enough : given ≤ passes
    pub entered : (k : ℕ) (e : E) → slice_get log k ≡ Some e → number_of e < given
    pub views : Views passes opened given log s.views

  -- ---- what a step tells the pass that makes it

  -- a load of the gate: nothing changed
  abbrev pub Looks : Step (Option T) → Me (Option T) (View T E) → ℕ → Me (Option T) (View T E) → Type 0
  Looks st m found m' = m' ≡ m

  -- a load of the gate after a pass was taken in: what it had seen begins what this one has
  abbrev pub Compares : Step (Option T) → Me (Option T) (View T E) → ℕ → Me (Option T) (View T E) → Type 0
  Compares st m found m' = (m' ≡ m) × (length m.0.also ≤ length m.0.seen → IsPrefix m.0.also m.0.seen)

  -- the turn was taken, with this value
  pub record TookTurn (m m' : Me (Option T) (View T E)) : Type 0 where
    pub value : T
    pub view : m'.0 ≡ with_turn m.0 (entries value)
    pub slot : m'.1 ≡ (0, Some value) ∷ []
    pub basis : (opened : T) → m.0.opened ≡ Some opened → HasSameBasis opened value
    pub begins : IsPrefix m.0.seen (entries value)
    pub own : OwnWithin number_of m.0.numbers (entries value) (length m.0.seen)

  -- a comparison and exchange of the gate
  abbrev pub Claims : Step (Option T) → Me (Option T) (View T E) → ℕ → Me (Option T) (View T E) → Type 0
  Claims st m found m' = (found ≢ st.first → m' ≡ m) × (found ≡ st.first → TookTurn m m')

  -- a swap of the gate by the pass that has the turn
  abbrev pub Releases : Step (Option T) → Me (Option T) (View T E) → ℕ → Me (Option T) (View T E) → Type 0
  Releases st m found m' = (x : T) → m.1 ≡ (0, Some x) ∷ [] → m' ≡ (after_turn m.0 (entries x), [])

  -- a comparison and exchange of word 1
  abbrev pub Numbers : Step (Option T) → Me (Option T) (View T E) → ℕ → Me (Option T) (View T E) → Type 0
  Numbers st m found m' = (found ≢ st.first → m' ≡ m) × (found ≡ st.first → m' ≡ (with_number m.0 found, m.1))
