-- The parents that paths follow, each once (docs/platform.md, "Queries").
use Rattle.std.specs.Prelude.{◌≡◌, ℕ, nat_eq, List, [], ◌++◌}
use Rattle.std.specs.List.{flat_map}
use Rattle.std.specs.Cmp.{IsEquivalence, and_equiv, on_equiv, nat_eq_equiv, unsigned_Decides}
use Rattle.std.specs.Cmp.Lexicographic.{nat_list_eq_equiv}
use Rattle.std.specs.Hash as fed
use Rattle.std.specs.Hash.{Alike, and-Alike, on_Alike, items_Alike, same_Alike}
use Rattle.indexmap.specs.IndexSet.{insert_all}
use Rattle.apex_rows.specs.declared.query.Path.{Path}
use Rattle.query_meaning.specs.Parents.{followed, same_path}

-- these parents, and further ones behind them, each once
abbrev pub with_ways : List Path → List Path → List Path
with_ways = insert_all same_path

-- those on the ways of paths
abbrev pub leading : List Path → List Path
leading paths = flat_map (λ (p : Path). followed [] p.parents) paths

-- ---- paths as keys

pub same_path_equiv : IsEquivalence same_path
same_path_equiv = and_equiv (on_equiv (λ (p : Path). p.parents) nat_list_eq_equiv) (on_equiv (λ (p : Path). p.field) nat_eq_equiv)

usize_alike : Alike nat_eq fed.usize
usize_alike = same_Alike fed.usize unsigned_Decides

-- the same paths are fed to a hasher alike
pub path_alike : Alike same_path (λ (p : Path). fed.slice fed.usize p.parents ++ fed.usize p.field)
path_alike = and-Alike (on_Alike (λ (p : Path). p.parents) (items_Alike usize_alike)) (on_Alike (λ (p : Path). p.field) usize_alike)
