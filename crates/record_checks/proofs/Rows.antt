-- Cells that name none of some rows.
use Rattle.std.proofs.Common.{◌≡◌, ℕ, Bool, List, [], ◌∷◌, refl, sym, ap, ◌∙◌}
use Rattle.std.specs.Prelude.{◌||◌, not, bytes_eq}
use Rattle.std.specs.List.{list_any}
use Rattle.apex_num.specs.declared.cell.Cell.{Cell}
use Rattle.apex_num.specs.declared.cell.Cell.TheVariants as C
use Rattle.apex_rows.specs.declared.row.Row.{Row}
use Rattle.row_meaning.specs.Stores.{has_id}
use Rattle.save_meaning.specs.Drafts.{dangles}
use Rattle.save_meaning.specs.Inserts.{ids_of}

-- the rows are found by their Ids
ids_any : (id : List ℕ) (rows : List Row) → list_any (λ (r : Row). bytes_eq r.id id) rows ≡ has_id (ids_of rows) id
ids_any id [] = refl
ids_any id (r ∷ rows) = ap (λ b. bytes_eq r.id id || b) (ids_any id rows)

pub dangles_is : (rows : List Row) (cell : Cell) (id : List ℕ) (b : Bool) → cell ≡ C.Id id → b ≡ has_id (ids_of rows) id → not b ≡ dangles rows cell
dangles_is rows cell id b e h = ap not (h ∙ sym (ids_any id rows)) ∙ sym (ap (dangles rows) e)
