-- What contracts see of the interfaces that classes name.
use Rattle.std.specs.Prelude.{◌≡◌, ℕ, Bool, List}
use Rattle.indexmap.specs.IndexSet.{IndexSet, contains}
use Rattle.class_tables.specs.declared.head.ClassHead.{ClassHead}
use Rattle.class_tables.specs.declared.line.Implements.{Implements}
use Rattle.class_tables.specs.contracts.line.ImplementsPartialEq.TheImpl.{ghosts}
use Rattle.class_tables.specs.Lines.{interfaces_at, has_number}

abbrev pub pair_eq : Implements → Implements → Bool
pair_eq = ghosts.eq

abbrev pub pair : ℕ → ℕ → Implements
pair class interface = record { class = class; interface = interface }

-- these are the pairs of a class and an interface that it names
abbrev pub HasPairs : {S : Type 0} → List ClassHead → IndexSet Implements S → Type 0
HasPairs heads pairs = (c i : ℕ) → contains pair_eq pairs (pair c i) ≡ has_number (interfaces_at heads c) i
