-- Walks over trees (docs/language.md, "The checker's walk"): what a part of a tree comes to, or the first fault on the way.
use Rattle.std.specs.Prelude.{◌≡◌, ℕ, List, [], ◌∷◌, Result, Ok, Err, ⊤}
use Rattle.fault_words.specs.declared.fault.FaultWord.{FaultWord}
use Rattle.type_names.specs.declared.fault.TreeFault.{TreeFault}
use Rattle.type_names.specs.declared.fault.WalkFault.{WalkFault}
use Rattle.type_names.specs.declared.fault.WalkFault.TheVariants as Fault

-- a value, or a fault
pub data Walk (A : Type 0) : Type 0 where
  Gives : A → Walk A
  Wrong : TreeFault → Walk A

-- a fault of this word at this byte
abbrev pub wrong : {A : Type 0} → FaultWord → ℕ → Walk A
wrong word at = Wrong (record { word = word; at = at })

-- one part after the other
abbrev pub onward : {A B : Type 0} → Walk A → (A → Walk B) → Walk B
onward (Gives a) go = go a
onward (Wrong fault) go = Wrong fault

-- parts from left to right
abbrev pub all : {A : Type 0} → List (Walk A) → Walk (List A)
all [] = Gives []
all (w ∷ ws) = onward w (λ a. onward (all ws) (λ more. Gives (a ∷ more)))

-- what calls answer that take no memory
abbrev pub Tells : {A : Type 0} → Walk A → Result A TreeFault → Type 0
Tells walk (Ok a) = walk ≡ Gives a
Tells walk (Err fault) = walk ≡ Wrong fault

-- what calls answer; want of memory is free
abbrev pub Fails : {A : Type 0} → Walk A → WalkFault → Type 0
Fails walk (Fault.Wrong fault) = walk ≡ Wrong fault
Fails walk Fault.NoMemory = ⊤

abbrev pub Comes : {A : Type 0} → Walk A → Result A WalkFault → Type 0
Comes walk (Ok a) = walk ≡ Gives a
Comes walk (Err fault) = Fails walk fault
