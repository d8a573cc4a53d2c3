-- Logs, and the rows as they are (docs/platform.md, "Shards").
use Rattle.std.specs.Prelude.{◌≡◌, ℕ, zero, suc, List, [], ◌∷◌, ◌++◌, Option, None, Some}
use Rattle.apex_rows.specs.declared.query.Answer.{Answer}
use Rattle.apex_rows.specs.declared.query.Question.{Question}
use Rattle.apex_rows.specs.declared.query.Question.TheVariants.{Read, Grab}
use Rattle.apex_rows.specs.declared.row.Row.{Row}
use Rattle.record_store.specs.Places.{answer_to}
use Rattle.tenant_trails.specs.Runs.{Run, Asks}
use Rattle.tenant_shards.specs.declared.log.Log.{Log}

-- rows are asked for, and none of them alone
abbrev pub AsksRows : Question → Type 0
AsksRows (Read object cond) = Unit {0}
AsksRows (Grab ids) = ⊥

-- each of these questions has this answer now
abbrev pub AreCurrent : List Row → List Question → List Answer → Type 0
AreCurrent rows [] [] = Unit {0}
AreCurrent rows (q ∷ qs) (a ∷ more) = (a ≡ answer_to rows q) × AreCurrent rows qs more
AreCurrent rows _ _ = ⊥

-- the first that has another answer now
abbrev pub IsStaleAt : List Row → List Question → List Answer → ℕ → Type 0
IsStaleAt rows (q ∷ qs) (a ∷ more) zero = a ≡ answer_to rows q → ⊥
IsStaleAt rows (q ∷ qs) (a ∷ more) (suc k) = (a ≡ answer_to rows q) × IsStaleAt rows qs more k
IsStaleAt rows _ _ k = ⊥

abbrev pub IsCurrent : List Row → Log → Type 0
IsCurrent rows log = AreCurrent rows log.asked log.answers

abbrev pub IsStale : List Row → Log → ℕ → Type 0
IsStale rows log k = IsStaleAt rows log.asked log.answers k

-- none is stale, or this is the first one
abbrev pub Tells : List Row → Log → Option ℕ → Type 0
Tells rows log None = IsCurrent rows log
Tells rows log (Some k) = IsStale rows log k

-- ---- the log of a request

-- each question is the one that the request asks on the answers before it
abbrev pub IsLogOf : (List Answer → Run) → List Answer → List Question → List Answer → Type 0
IsLogOf go before [] [] = Unit {0}
IsLogOf go before (q ∷ qs) (a ∷ more) = (go before ≡ Asks q) × IsLogOf go (before ++ a ∷ []) qs more
IsLogOf go before _ _ = ⊥
