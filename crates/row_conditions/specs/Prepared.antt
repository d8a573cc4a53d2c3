-- What conditions say that were prepared (docs/platform.md, "Conditions").
use Rattle.std.specs.Prelude.{◌≡◌, not, Bool, List, map}
use Rattle.std.specs.List.{list_all, list_any}
use Rattle.apex_num.specs.declared.cell.Cell.{Cell}
use Rattle.apex_rows.specs.declared.query.Bind.{Bind}
use Rattle.apex_rows.specs.declared.query.Path.{Path}
use Rattle.apex_rows.specs.declared.query.Cond.{Cond}
use Rattle.row_meaning.specs.Cells.{compares}
use Rattle.row_meaning.specs.Conds.{holds, within}
use Rattle.row_conditions.specs.Keys.{has}
use Rattle.row_conditions.specs.declared.prepared.PreparedCond.{PreparedCond}
use Rattle.row_conditions.specs.declared.prepared.PreparedCond.TheOpen.{PreparedCond-F}
use Rattle.row_conditions.specs.declared.prepared.PreparedCond.TheFolds.{fold-PreparedCond}

abbrev pub prepared_step : (Path → Cell) → PreparedCond-F Bool → Bool
prepared_step value (PreparedCond-F.All cs) = list_all (λ b. b) cs
prepared_step value (PreparedCond-F.Any cs) = list_any (λ b. b) cs
prepared_step value (PreparedCond-F.Not b) = not b
prepared_step value (PreparedCond-F.Compare path op cell) = compares op (value path) cell
prepared_step value (PreparedCond-F.Within path negated keys) = within negated (has keys (value path))

-- a prepared condition holds, where paths have these values
abbrev pub prepared_holds : (Path → Cell) → PreparedCond → Bool
prepared_holds value = fold-PreparedCond Bool (prepared_step value)

-- it holds exactly where this condition does, whatever values paths have
abbrev pub IsPrepared : List Bind → Cond → PreparedCond → Type 0
IsPrepared binds cond prepared = (value : Path → Cell) → prepared_holds value prepared ≡ holds binds value cond

-- the same of several, one by one
abbrev pub AreAllPrepared : List Bind → List Cond → List PreparedCond → Type 0
AreAllPrepared binds conds all = (value : Path → Cell) → map (prepared_holds value) all ≡ map (holds binds value) conds
