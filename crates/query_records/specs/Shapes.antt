-- What the records of a query know (docs/language.md, "Records"). A record over a row is there where the row is, so a query finds
-- the Ids of those rows beside what it selects.
use Rattle.std.specs.Prelude.{ℕ, zero, suc, ◌+◌, not, bytes_eq, Bool, cond, List, [], ◌∷◌, ◌++◌, length, map, filter}
use Rattle.std.specs.List.{flat_map}
use Rattle.apex_rows.specs.declared.query.Path.{Path}
use Rattle.apex_rows.specs.declared.query.Query.{Query}
use Rattle.apex_rows.specs.declared.query.Query.TheViews.{out-Query, roll-Query, out-SubQuery, roll-SubQuery}
use Rattle.apex_rows.specs.declared.query.SubQuery.{SubQuery}
use Rattle.row_meaning.specs.Cells.{is_empty}
use Rattle.query_meaning.specs.Parents.{each_once, followed}
use Rattle.query_records.specs.declared.shape.ChildShape.{ChildShape}
use Rattle.query_records.specs.declared.shape.FoundShape.{FoundShape}
use Rattle.query_records.specs.declared.shape.Given.{Given}
use Rattle.query_records.specs.declared.shape.Over.{Over}
use Rattle.query_records.specs.declared.shape.Over.TheViews.{roll-Over}
use Rattle.query_records.specs.declared.shape.Queried.{Queried}
use Rattle.query_records.specs.declared.shape.RowShape.{RowShape}

-- ---- the rows over the rows of a query

-- the fields that the selected paths follow, each once, and each behind those on its way
abbrev pub ways : List Path → List Path
ways paths = each_once [] (flat_map (λ (p : Path). followed [] p.parents) paths)

-- the way on from the row that a followed field names
abbrev pub behind : Path → List ℕ
behind way = way.parents ++ way.field ∷ []

-- the Id of that row
abbrev pub id_over : Path → Path
id_over way = record { parents = behind way; field = 0 }

-- the paths that a query finds: the Ids over its rows, and then what it selects
abbrev pub with_ids : List Path → List Path
with_ids paths = map id_over (ways paths) ++ paths

-- ---- what is known

-- values with their places from n on
abbrev pub numbered : {A : Type 0} → ℕ → List A → List (ℕ × A)
numbered n [] = []
numbered n (a ∷ rest) = (n, a) ∷ numbered (suc n) rest

-- the paths of more than one name
abbrev pub longer : List Path → List Path
longer paths = filter (λ (p : Path). not (is_empty p.parents)) paths

abbrev pub shorter : List Path → List Path
shorter paths = filter (λ (p : Path). is_empty p.parents) paths

-- what stands behind these parents
abbrev pub is_behind : List ℕ → ℕ × Path → Bool
is_behind parents p = bytes_eq p.1.parents parents

-- the cells that a record knows at the end of a way, by the selected paths and their places
abbrev pub cells_at : List (ℕ × Path) → List ℕ → List Given
cells_at selected way = map (λ (p : ℕ × Path). record { field = p.1.field; place = p.0 }) (filter (is_behind way) selected)

-- what a record leads to at the end of a way of at most n fields more, by the fields that are followed and their places
abbrev pub overs_at : ℕ → List (ℕ × Path) → List (ℕ × Path) → List ℕ → List Over
overs_at zero followed selected way = []
overs_at (suc n) followed selected way =
    map (λ (f : ℕ × Path). roll-Over (record { field = f.1.field; id = f.0; cells = cells_at selected (behind f.1); over = overs_at n followed selected (behind f.1) }))
    (filter (is_behind way) followed)

-- what the record of a row knows of these selected paths; the Id is known whether or not it is selected
abbrev pub shape_of : List Path → RowShape
shape_of paths = record {
  own = 0 ∷ map (λ (p : Path). p.field) (shorter paths);
  over = overs_at (length (ways paths)) (numbered 0 (ways paths)) (numbered (length (ways paths)) (longer paths)) [];
}

-- ---- queries

abbrev pub with_own : Query → Query
with_own q = roll-Query (record (out-Query q) { paths = with_ids (out-Query q).paths })

abbrev pub child_with : SubQuery → SubQuery
child_with sub = roll-SubQuery (record (out-SubQuery sub) { query = with_own (out-SubQuery sub).query })

abbrev pub query_with : Query → Query
query_with q = roll-Query (record (out-Query q) { paths = with_ids (out-Query q).paths; children = map child_with (out-Query q).children })

abbrev pub child_shape : SubQuery → ChildShape
child_shape sub = record { object = (out-Query (out-SubQuery sub).query).object; lookup = (out-SubQuery sub).lookup; row = shape_of (out-Query (out-SubQuery sub).query).paths }

-- a query with what its records know
abbrev pub queried : Query → Queried
queried q = record { query = query_with q; shape = record { row = shape_of (out-Query q).paths; children = map child_shape (out-Query q).children } }
