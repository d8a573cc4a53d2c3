use Rattle.std.proofs.Common.{◌≡◌, ℕ, List, take, bytes_eq}
use Rattle.indexmap.specs.IndexMap.{get}
use Rattle.schema_names.specs.Names.{place_of}
use Rattle.schema_names.proofs.places.map_of.Given as goal

abbrev pub invariant-loop-i : goal.invariant-loop-i
invariant-loop-i l = (n : List ℕ) → get bytes_eq l.map n ≡ place_of (take l.i l.names) n
