-- Conditions on rows (docs/platform.md, "Conditions").
use Rattle.std.specs.Prelude.{ℕ, not, Bool, cond, List, [], ◌∷◌, map, filter, slice_get, Option, None, Some}
use Rattle.std.specs.List.{list_all, list_any}
use Rattle.apex_num.specs.declared.cell.Cell.{Cell}
use Rattle.apex_num.specs.declared.cell.Cell.TheVariants.{Null}
use Rattle.apex_rows.specs.declared.query.Bind.{Bind}
use Rattle.apex_rows.specs.declared.query.Bind.TheVariants.{One, Many}
use Rattle.apex_rows.specs.declared.query.Path.{Path}
use Rattle.apex_rows.specs.declared.query.Term.{Term}
use Rattle.apex_rows.specs.declared.query.Term.TheVariants.{Given, Bound}
use Rattle.apex_rows.specs.declared.query.Terms.{Terms}
use Rattle.apex_rows.specs.declared.query.Terms.TheVariants.{Given as GivenAll, Bound as BoundAll}
use Rattle.apex_rows.specs.declared.query.Cond.{Cond}
use Rattle.apex_rows.specs.declared.query.Cond.TheOpen.{Cond-F}
use Rattle.apex_rows.specs.declared.query.Cond.TheFolds.{fold-Cond}
use Rattle.apex_rows.specs.declared.query.Cond.TheViews.{out-Cond}
use Rattle.apex_rows.specs.declared.row.Row.{Row}
use Rattle.row_meaning.specs.Cells.{is_empty, same_cell, compares}

-- the cell of a field; null where the row has no such cell
abbrev pub or_null : Option Cell → Cell
or_null None = Null
or_null (Some c) = c

abbrev pub cell_of : Row → ℕ → Cell
cell_of row field = or_null (slice_get row.cells field)

-- ---- values of binds

abbrev pub one_of : Option Bind → Cell
one_of (Some (One c)) = c
one_of _ = Null

abbrev pub all_of : Option Bind → List Cell
all_of (Some (Many cs)) = cs
all_of (Some (One c)) = c ∷ []
all_of None = []

abbrev pub term_value : List Bind → Term → Cell
term_value binds (Given c) = c
term_value binds (Bound n) = one_of (slice_get binds n)

abbrev pub terms_values : List Bind → Terms → List Cell
terms_values binds (GivenAll ts) = map (term_value binds) ts
terms_values binds (BoundAll n) = all_of (slice_get binds n)

-- ---- what holds, by the value of each path

abbrev pub within : Bool → Bool → Bool
within negated found = cond negated (not found) found

abbrev pub holds_step : List Bind → (Path → Cell) → Cond-F Bool → Bool
holds_step binds value (Cond-F.All cs) = list_all (λ b. b) cs
holds_step binds value (Cond-F.Any cs) = list_any (λ b. b) cs
holds_step binds value (Cond-F.Not b) = not b
holds_step binds value (Cond-F.Compare path op term) = compares op (value path) (term_value binds term)
holds_step binds value (Cond-F.Within path negated terms) = within negated (list_any (same_cell (value path)) (terms_values binds terms))

-- a condition holds, where paths have these values
abbrev pub holds : List Bind → (Path → Cell) → Cond → Bool
holds binds value = fold-Cond Bool (holds_step binds value)

-- the value of a path of one name
abbrev pub own_value : Row → Path → Cell
own_value row path = cell_of row path.field

-- a condition of a question holds of a row of its object
abbrev pub holds_of : Cond → Row → Bool
holds_of c row = holds [] (own_value row) c

-- ---- the part that names only fields of the query's own object

abbrev pub is_own : Path → Bool
is_own path = is_empty path.parents

abbrev pub own_step : Cond-F Bool → Bool
own_step (Cond-F.All cs) = list_all (λ b. b) cs
own_step (Cond-F.Any cs) = list_all (λ b. b) cs
own_step (Cond-F.Not b) = b
own_step (Cond-F.Compare path op term) = is_own path
own_step (Cond-F.Within path negated terms) = is_own path

abbrev pub is_local : Cond → Bool
is_local = fold-Cond Bool own_step

-- the conditions that have to hold together
abbrev pub conjuncts_by : Cond → Cond-F Cond → List Cond
conjuncts_by c (Cond-F.All cs) = cs
conjuncts_by c _ = c ∷ []

abbrev pub conjuncts : Cond → List Cond
conjuncts c = conjuncts_by c (out-Cond c)

-- those of them that a store can decide from a row alone
abbrev pub local_part : Cond → List Cond
local_part c = filter is_local (conjuncts c)
