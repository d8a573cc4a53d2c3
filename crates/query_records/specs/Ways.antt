-- The fields that paths follow, one after the other.
use Rattle.std.specs.Prelude.{List, [], ◌∷◌, ◌++◌, if◌then◌else◌}
use Rattle.std.specs.List.{flat_map, list_any}
use Rattle.apex_rows.specs.declared.query.Path.{Path}
use Rattle.query_meaning.specs.Parents.{followed, same_path}

-- with one more, where it isn't there
abbrev pub added : List Path → Path → List Path
added ways p = if list_any (same_path p) ways then ways else ways ++ p ∷ []

-- with further ones
abbrev pub with_ways : List Path → List Path → List Path
with_ways ways [] = ways
with_ways ways (p ∷ ps) = with_ways (added ways p) ps

-- those on the ways of paths
abbrev pub leading : List Path → List Path
leading paths = flat_map (λ (p : Path). followed [] p.parents) paths
