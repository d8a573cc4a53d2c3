use Rattle.std.proofs.Common.{◌≡◌, ℕ, List, take, bytes_eq}
use Rattle.indexmap.specs.IndexMap.{get}
use Rattle.schema_plans.specs.Plans.{number_from}
use Rattle.schema_build.proofs.numbers.numbers_among.Given as goal

abbrev pub invariant-loop-i : goal.invariant-loop-i
invariant-loop-i l = (n : List ℕ) → get bytes_eq l.map n ≡ number_from 2 (take l.i l.fields) n
