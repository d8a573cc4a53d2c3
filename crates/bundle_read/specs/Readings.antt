-- How JSON values are read: what they say, or the first fault in them (docs/formats.md, "Bundles").
use Rattle.std.specs.Prelude.{◌≡◌, ℕ, ◌+◌, ◌++◌, nat_lt, cond, Bool, false, List, [], ◌∷◌, codes, bytes_eq, decimal, map, Option, None, Some, Result, Ok, Err}
use Rattle.std.specs.List.{list_any}
use Rattle.serde_json.specs.Data.{Data, Num, Items, no_items, item, Members, no_members, member}
use Rattle.serde_json.specs.Find.{get, as_object, as_array}
use denote.Ref.{Bor}
use Rattle.serde_json.specs.declared.value.Value.{Value}
use Rattle.serde_json.specs.View.{view, number_view, items_view}
use Rattle.serde_json.specs.declared.number.Number.{Number}
use Rattle.fault_words.specs.declared.fault.Fault.{Fault}
use Rattle.fault_words.specs.declared.fault.FaultWord.{FaultWord}
use Rattle.fault_words.specs.declared.fault.FaultWord.TheVariants.{Missing, WrongKind, BadValue, TooMany, UnknownKey}
use Rattle.bundle_read.specs.declared.fault.BundleFault.{BundleFault}
use Rattle.bundle_read.specs.declared.fault.BundleFault.TheVariants.{Wrong, NoMemory}

-- ---- faults and their places

-- a fault of the value that is read
abbrev pub here : FaultWord → Fault
here word = record { place = []; word = word }

-- a fault of a part: its place begins with the part's name
abbrev pub inner : List ℕ → Fault → Fault
inner part f = record { place = part ++ f.place; word = f.word }

abbrev pub fault : {A : Type 0} → FaultWord → Result A Fault
fault word = Err (here word)

abbrev pub within : {A : Type 0} → List ℕ → Result A Fault → Result A Fault
within part (Ok a) = Ok a
within part (Err f) = Err (inner part f)

-- what is read behind something else, where that has no fault
infixl 10 ◌>>=◌
abbrev pub ◌>>=◌ : {A B : Type 0} → Result A Fault → (A → Result B Fault) → Result B Fault
(Ok a) >>= next = next a
(Err f) >>= next = Err f

-- ---- kinds

-- a value of another kind than is wanted
abbrev pub of_kind : {A : Type 0} → Option A → Result A Fault
of_kind None = fault WrongKind
of_kind (Some a) = Ok a

-- a value that isn't one of those that may stand there
abbrev pub of_values : {A : Type 0} → Option A → Result A Fault
of_values None = fault BadValue
of_values (Some a) = Ok a

-- ---- objects and their keys

abbrev pub has : List (List ℕ) → List ℕ → Bool
has keys k = list_any (λ one. bytes_eq one k) keys

-- the first key that isn't one of these; members stand in the order of their keys' bytes
abbrev pub unknown_key : List (List ℕ) → Members → Option (List ℕ)
unknown_key keys no_members = None
unknown_key keys (member k d ms) = cond (has keys k) (unknown_key keys ms) (Some k)

abbrev pub key_name : List ℕ → List ℕ
key_name k = codes "." ++ k

-- a key that isn't in the table of the object
abbrev pub key_fault : Option (List ℕ) → Option Fault
key_fault None = None
key_fault (Some k) = Some (inner (key_name k) (here UnknownKey))

abbrev pub members_fault : List (List ℕ) → Option Members → Option Fault
members_fault keys None = Some (here WrongKind)
members_fault keys (Some ms) = key_fault (unknown_key keys ms)

-- what is wrong with a value as an object of these keys, apart from what they say
abbrev pub object_fault : List (List ℕ) → Data → Option Fault
object_fault keys d = members_fault keys (as_object d)

abbrev pub unless : {A : Type 0} → Option Fault → Result A Fault → Result A Fault
unless None reading = reading
unless (Some f) reading = Err f

-- what is read of an object that has no keys but these
abbrev pub keyed : {A : Type 0} → List (List ℕ) → Data → Result A Fault → Result A Fault
keyed keys d reading = unless (object_fault keys d) reading

abbrev pub found : {A : Type 0} → (Data → Result A Fault) → Option Data → Result A Fault
found read None = fault Missing
found read (Some d) = read d

-- what a key says that has to be there
abbrev pub needed : {A : Type 0} → (Data → Result A Fault) → List ℕ → Data → Result A Fault
needed read k d = within (key_name k) (found read (get k d))

abbrev pub maybe : {A : Type 0} → (Data → Result A Fault) → Option Data → Result (Option A) Fault
maybe read None = Ok None
maybe read (Some d) = read d >>= (λ a. Ok (Some a))

-- what a key says that may be absent
abbrev pub optional : {A : Type 0} → (Data → Result A Fault) → List ℕ → Data → Result (Option A) Fault
optional read k d = within (key_name k) (maybe read (get k d))

-- ---- lists

abbrev pub count : Items → ℕ
count no_items = 0
count (item d ds) = count ds + 1

abbrev pub item_name : ℕ → List ℕ
item_name i = codes "[" ++ decimal i ++ codes "]"

-- each item, by its number from i on
abbrev pub each : {A : Type 0} → (Data → Result A Fault) → ℕ → Items → Result (List A) Fault
each read i no_items = Ok []
each read i (item d ds) = within (item_name i) (read d) >>= (λ a. each read (i + 1) ds >>= (λ rest. Ok (a ∷ rest)))

-- how many items a list may have
abbrev pub is_over : Option ℕ → ℕ → Bool
is_over None n = false
is_over (Some most) n = nat_lt most n

abbrev pub short : Option ℕ → Items → Result Items Fault
short most ds = cond (is_over most (count ds)) (fault TooMany) (Ok ds)

abbrev pub list_of : {A : Type 0} → Option ℕ → (Data → Result A Fault) → Data → Result (List A) Fault
list_of most read d = of_kind (as_array d) >>= (λ ds. short most ds >>= each read 0)

-- what a reference to a value shows, where there is one
abbrev pub option_view : Option (Bor Value) → Option Data
option_view None = None
option_view (Some v) = Some (view v.now)

-- ---- what a reading answers; want of memory is free

abbrev pub IsFault : BundleFault → Fault → Type 0
IsFault (Wrong f) g = f ≡ g
IsFault NoMemory g = Unit {0}

-- the first is a fault of a part, the last what it was there
abbrev pub IsInner : BundleFault → List ℕ → BundleFault → Type 0
IsInner r part (Wrong f) = IsFault r (inner part f)
IsInner r part NoMemory = r ≡ NoMemory

-- there is a fault, and it is this one
pub record IsFirst (e : BundleFault) (o : Option Fault) : Type 0 where
  pub by : (f : Fault) → e ≡ Wrong f → o ≡ Some f

-- the reading has a fault, and it is this one
pub record Stops {A : Type 0} (e : BundleFault) (reading : Result A Fault) : Type 0 where
  pub by : (f : Fault) → e ≡ Wrong f → reading ≡ Err f

abbrev pub Tells : {A : Type 0} → Result A BundleFault → Result A Fault → Type 0
Tells (Ok a) reading = reading ≡ Ok a
Tells (Err e) reading = Stops e reading

-- the texts of references
abbrev pub texts : List (Bor (List ℕ)) → List (List ℕ)
texts ks = map (λ k. k.now) ks

-- the same where the answer borrows a text
abbrev pub Shows : Result (Bor (List ℕ)) BundleFault → Result (List ℕ) Fault → Type 0
Shows (Ok a) reading = reading ≡ Ok a.now
Shows (Err e) reading = Stops e reading

-- or a number
abbrev pub ShowsNumber : Result (Bor Number) BundleFault → Result Num Fault → Type 0
ShowsNumber (Ok a) reading = reading ≡ Ok (number_view a.now)
ShowsNumber (Err e) reading = Stops e reading

-- or items
abbrev pub ShowsItems : Result (Bor (List Value)) BundleFault → Result Items Fault → Type 0
ShowsItems (Ok a) reading = reading ≡ Ok (items_view a.now)
ShowsItems (Err e) reading = Stops e reading

-- or a value passes as it is
abbrev pub Passes : {A B : Type 0} → Result A BundleFault → B → Result B Fault → Type 0
Passes (Ok a) b reading = reading ≡ Ok b
Passes (Err e) b reading = Stops e reading
