-- The statics of classes that are prepared: a list of classes with their values, in order of preparation.
use Rattle.std.specs.Prelude.{ℕ, zero, suc, Bool, nat_eq, cond, List, [], ◌∷◌, ◌++◌, replicate, slice_get, slice_set, Option, None, Some}
use Rattle.std.specs.Map.{lookup}
use Rattle.std.specs.Option.{is_some}
use Rattle.apex_num.specs.declared.cell.Cell.TheVariants.{Null}
use Rattle.txn_heap.specs.declared.thing.Value.{Value}
use Rattle.txn_heap.specs.declared.thing.Value.TheVariants.{Plain}

abbrev pub of_class : ℕ → List (ℕ × List Value) → Option (List Value)
of_class c statics = lookup (nat_eq c) statics

abbrev pub is_prepared : ℕ → List (ℕ × List Value) → Bool
is_prepared c statics = is_some (of_class c statics)

-- its statics are null at first; a class that is prepared stays as it is
abbrev pub prepare : ℕ → ℕ → List (ℕ × List Value) → List (ℕ × List Value)
prepare c count statics = cond (is_prepared c statics) statics (statics ++ (c, replicate count (Plain Null)) ∷ [])

abbrev pub static_in : Option (List Value) → ℕ → Option Value
static_in None n = None
static_in (Some values) n = slice_get values n

abbrev pub static_at : ℕ → ℕ → List (ℕ × List Value) → Option Value
static_at c n statics = static_in (of_class c statics) n

-- of a class that isn't prepared, nothing is written
abbrev pub with_static : ℕ → ℕ → Value → List (ℕ × List Value) → List (ℕ × List Value)
with_static c n v [] = []
with_static c n v (e ∷ es) = cond (nat_eq c e.0) ((e.0, slice_set e.1 n v) ∷ es) (e ∷ with_static c n v es)

-- the same by the place of the class among those that are prepared
abbrev pub with_static_at : ℕ → ℕ → Value → List (ℕ × List Value) → List (ℕ × List Value)
with_static_at i n v [] = []
with_static_at zero n v (e ∷ es) = (e.0, slice_set e.1 n v) ∷ es
with_static_at (suc i) n v (e ∷ es) = e ∷ with_static_at i n v es
