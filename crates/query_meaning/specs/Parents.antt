-- The rows over the rows of a query, which its paths of more than one name lead to (docs/platform.md, "Queries").
use Rattle.std.specs.Prelude.{ℕ, ◌&&◌, eqb, Bool, cond, List, [], ◌∷◌, ◌++◌, map, slice_get, bytes_eq, Option, None, Some}
use Rattle.std.specs.List.{flat_map, list_any}
use Rattle.apex_schema.specs.declared.schema.Schema.{Schema}
use Rattle.apex_rows.specs.declared.query.Path.{Path}
use Rattle.apex_rows.specs.declared.query.SortKey.{SortKey}
use Rattle.apex_rows.specs.declared.query.Cond.{Cond}
use Rattle.apex_rows.specs.declared.query.Cond.TheOpen.{Cond-F}
use Rattle.apex_rows.specs.declared.query.Cond.TheFolds.{fold-Cond}
use Rattle.apex_rows.specs.declared.query.Query.{Query}
use Rattle.apex_rows.specs.declared.query.Query.TheViews.{out-Query}
use Rattle.apex_rows.specs.declared.row.Row.{Row}
use Rattle.row_meaning.specs.Queries.{object_leads, path_value}
use Rattle.save_meaning.specs.Drafts.{id_in}

-- ---- which parents a query needs

-- the fields that are followed on the way of a path, each as the path to its own cell, which names the next row
abbrev pub followed : List ℕ → List ℕ → List Path
followed before [] = []
followed before (f ∷ fs) = record { parents = before; field = f } ∷ followed (before ++ f ∷ []) fs

-- the paths of a condition, in the order of the text
abbrev pub paths_step : Cond-F (List Path) → List Path
paths_step (Cond-F.All ps) = flat_map (λ (p : List Path). p) ps
paths_step (Cond-F.Any ps) = flat_map (λ (p : List Path). p) ps
paths_step (Cond-F.Not p) = p
paths_step (Cond-F.Compare path op term) = path ∷ []
paths_step (Cond-F.Within path negated terms) = path ∷ []

abbrev pub cond_paths : Cond → List Path
cond_paths = fold-Cond (List Path) paths_step

-- those of a query: what it selects, its condition, its order
abbrev pub paths_of : Query → List Path
paths_of q = (out-Query q).paths ++ (cond_paths (out-Query q).cond ++ map (λ (k : SortKey). k.path) (out-Query q).keys)

abbrev pub same_path : Path → Path → Bool
same_path a b = bytes_eq a.parents b.parents && eqb a.field b.field

-- those that aren't among earlier ones, each once, in their order
abbrev pub each_once : List Path → List Path → List Path
each_once before [] = []
each_once before (p ∷ ps) = cond (list_any (same_path p) before) (each_once before ps) (p ∷ each_once (before ++ p ∷ []) ps)

-- the parents of a query's rows, in the order in which they come first in the text, each behind those on its way
abbrev pub parents_of : Query → List Path
parents_of q = each_once [] (flat_map (λ (p : Path). followed [] p.parents) (paths_of q))

-- ---- which rows they are

-- the object at the end of a way from an object
abbrev pub then_object : Option ℕ → (ℕ → Option ℕ) → Option ℕ
then_object None go = None
then_object (Some o) go = go o

abbrev pub object_after : Schema → ℕ → List ℕ → Option ℕ
object_after schema object [] = Some object
object_after schema object (f ∷ fs) = then_object (object_leads (slice_get schema.objects object) f) (λ o. object_after schema o fs)

-- the object of the rows that a followed field of an object names
abbrev pub object_over : Schema → ℕ → Path → Option ℕ
object_over schema object p = object_after schema object (p.parents ++ p.field ∷ [])

-- the Ids that a followed field has over these rows, as far as the rows on its way are known
abbrev pub named_over : Schema → List Row → Path → List Row → List (List ℕ)
named_over schema known p rows = flat_map (λ (r : Row). id_in (path_value schema known r p)) rows
