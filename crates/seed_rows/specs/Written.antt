-- The rows of a seed as they are written (docs/formats.md, "Seeds").
use Rattle.std.specs.Prelude.{ℕ, ◌&&◌, Bool, false, List, [], ◌∷◌, ◌++◌, map, codes, bytes_eq, Option, None, Some}
use Rattle.std.specs.List.{list_any}
use Rattle.apex_text.specs.Fold.{folded}
use Rattle.schema_names.specs.Names.{place_of}
use Rattle.row_meaning.specs.Rules.{reads_as}
use Rattle.bundle_read.specs.declared.entries.CellEntry.{CellEntry}
use Rattle.bundle_read.specs.declared.entries.CellValue.{CellValue}
use Rattle.bundle_read.specs.declared.entries.CellValue.TheVariants.{Text}
use Rattle.bundle_read.specs.declared.entries.RowEntry.{RowEntry}
use Rattle.bundle_read.specs.declared.entries.SeedEntry.{SeedEntry}
use Rattle.row_cells.specs.Rows.{is_number}

-- a row as it is written: the number of its object, none where there isn't one of that name; the object's name; its cells
pub record Written : Type 0 where
  pub object : Option ℕ
  pub name : List ℕ
  pub cells : List CellEntry

-- the rows of an entry; an entry whose object there isn't counts as one row
abbrev pub rows_of : List ℕ → Option ℕ → List RowEntry → List Written
rows_of name None rows = record { object = None; name = name; cells = [] } ∷ []
rows_of name (Some o) rows = map (λ (r : RowEntry). record { object = Some o; name = name; cells = r.cells }) rows

abbrev pub entry_rows : List (List ℕ) → SeedEntry → List Written
entry_rows names e = rows_of e.object (place_of names (folded e.object)) e.rows

-- all rows of these entries, of objects with these names
abbrev pub written : List (List ℕ) → List SeedEntry → List Written
written names [] = []
written names (e ∷ es) = entry_rows names e ++ written names es

-- ---- the rows that may be named

-- a text that names an Id
abbrev pub names_id : List ℕ → CellValue → Bool
names_id id (Text t) = reads_as t id
names_id id _ = false

-- a row's Id is written so, whatever else is wrong with the row
abbrev pub gives_id : List ℕ → CellEntry → Bool
gives_id id e = bytes_eq (folded e.name) (codes "id") && names_id id e.value

-- a row of this object with this Id is among them
abbrev pub is_there : List Written → ℕ → List ℕ → Bool
is_there all object id = list_any (λ (w : Written). is_number object w.object && list_any (gives_id id) w.cells) all
