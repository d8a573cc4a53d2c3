-- From a JSON value to the answer.
use Rattle.std.proofs.Common.{◌≡◌, ◌∷◌, ℕ, Bool, true, false, cond, eqb, eqb-true, List, [], codes, None, Result, Ok, Err, refl, sym, ap, ◌∙◌, subst, IsUtf8}
use Rattle.serde_json.specs.Data.{Data}
use Rattle.serde_json.specs.Read.{read}
use Rattle.fault_words.specs.declared.fault.Fault.{Fault}
use Rattle.bundle_read.specs.declared.entries.Bundle.{Bundle}
use Rattle.bundle_read.specs.declared.fault.BundleFault.{BundleFault}
use Rattle.bundle_read.specs.declared.fault.BundleFault.TheVariants.{Wrong, NoMemory}
use Rattle.bundle_read.specs.Readings.{Stops, Tells}
use Rattle.bundle_read.specs.Bundles.{path, placed, bundle, IsJson, not_json, IsRead, as_value, as_nothing, Reads, Agrees, IsNotJson, IsPlaced}

-- ---- places

path_other : (b : Bool) (place : List ℕ) → b ≡ false → cond b place (codes "json") ≡ codes "json"
path_other b place e = ap (λ x. cond x place (codes "json")) e

pub path_plain : (place : List ℕ) → ((rest : List ℕ) → place ≡ 46 ∷ rest → ⊥) → path place ≡ codes "json"
path_plain [] no_dot = refl
path_plain (b ∷ place) no_dot = path_case (eqb b 46) refl
  where
    path_case : (t : Bool) → eqb b 46 ≡ t → cond (eqb b 46) place (codes "json") ≡ codes "json"
    path_case true e = absurd (no_dot place (ap (λ x. x ∷ place) (eqb-true b 46 e)))
    path_case false e = path_other (eqb b 46) place e

pub path_dotted : (place rest : List ℕ) → place ≡ 46 ∷ rest → path place ≡ rest
path_dotted place rest e = ap path e

-- ---- faults

pub placed_stops : (e : BundleFault) (f : Fault) (r : Result Bundle Fault) → r ≡ Err f → IsPlaced e f → Stops e (placed r)
placed_stops (Wrong g) f r is h = record { by = λ k e. ap placed is ∙ ap Err (sym h ∙ cc) }
placed_stops NoMemory f r is h = record { by = λ k e. absurd (cc) }

-- ---- the answer

one_value : (bytes : List ℕ) (d e : Data) → IsJson bytes d → IsJson bytes e → d ≡ e
one_value bytes d e h k = let s = sym h.1 ∙ k.1 in cc

read_once : (bytes : List ℕ) (d : Data) → IsJson bytes d → (other : Result Bundle Fault) → IsRead bytes other → other ≡ placed (bundle d)
read_once bytes d h other (as_value e k) = ap (λ x. placed (bundle x)) (one_value bytes e d k h)
read_once bytes d h other (as_nothing none) = absurd (none d h)

none_once : (bytes : List ℕ) → ((d : Data) → IsJson bytes d → ⊥) → (other : Result Bundle Fault) → IsRead bytes other → other ≡ not_json
none_once bytes none other (as_value e k) = absurd (none e k)
none_once bytes none other (as_nothing absent) = refl

pub value_reads : (bytes : List ℕ) (d : Data) (r : Result Bundle BundleFault) → IsJson bytes d → Tells r (placed (bundle d)) → Reads bytes r
value_reads bytes d (Ok b) h told = subst (IsRead bytes) told (as_value d h)
value_reads bytes d (Err (Wrong f)) h told = subst (IsRead bytes) (told.by f refl) (as_value d h)
value_reads bytes d (Err NoMemory) h told = tt

pub value_agrees : (bytes : List ℕ) (d : Data) (r : Result Bundle BundleFault) → IsJson bytes d → Tells r (placed (bundle d)) → (other : Result Bundle Fault) → IsRead bytes other → Agrees r other
value_agrees bytes d (Ok b) h told other k = read_once bytes d h other k ∙ told
value_agrees bytes d (Err (Wrong f)) h told other k = read_once bytes d h other k ∙ told.by f refl
value_agrees bytes d (Err NoMemory) h told other k = tt

pub nothing_reads : (bytes : List ℕ) (e : BundleFault) → ((d : Data) → IsJson bytes d → ⊥) → IsNotJson e → Reads bytes (Err e)
nothing_reads bytes (Wrong f) none h = subst (λ g. IsRead bytes (Err g)) (sym h) (as_nothing none)
nothing_reads bytes NoMemory none h = tt

pub nothing_agrees : (bytes : List ℕ) (e : BundleFault) → ((d : Data) → IsJson bytes d → ⊥) → IsNotJson e → (other : Result Bundle Fault) → IsRead bytes other → Agrees (Err e) other
nothing_agrees bytes (Wrong f) none h other k = none_once bytes none other k ∙ ap Err (sym h)
nothing_agrees bytes NoMemory none h other k = tt

pub no_value : (bytes : List ℕ) → (IsUtf8 bytes → read bytes ≡ None) → (d : Data) → IsJson bytes d → ⊥
no_value bytes none d h = let e = sym h.1 ∙ none h.0 in cc
