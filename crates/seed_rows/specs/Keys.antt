-- What contracts see of the rows that may be named.
use Rattle.std.specs.Prelude.{◌≡◌, ℕ, Bool, false, List, bytes_eq, Option, None, Some}
use Rattle.apex_num.specs.Ids.{IsId}
use Rattle.apex_num.specs.declared.cell.Cell.{Cell}
use Rattle.apex_num.specs.declared.cell.Cell.TheVariants.{Id}
use Rattle.bundle_read.specs.declared.entries.CellEntry.{CellEntry}
use Rattle.indexmap.specs.IndexSet.{IndexSet, contains}
use Rattle.seed_rows.specs.declared.keys.RowKey.{RowKey}
use Rattle.seed_rows.specs.contracts.keys.RowKeyPartialEq.TheImpl.{ghosts}
use Rattle.seed_rows.specs.Written.{Written, gives_id, is_there}

abbrev pub key_eq : RowKey → RowKey → Bool
key_eq = ghosts.eq

abbrev pub key : ℕ → List ℕ → RowKey
key object id = record { object = object; id = id }

abbrev pub is_it : List ℕ → Option (List ℕ) → Bool
is_it id None = false
is_it id (Some i) = bytes_eq i id

abbrev pub id_cell : Option Cell → Option (List ℕ)
id_cell (Some (Id id)) = Some id
id_cell _ = None

-- the Id that an entry gives
abbrev pub IsGiven : CellEntry → Option (List ℕ) → Type 0
IsGiven e given = (id : List ℕ) → IsId id → gives_id id e ≡ is_it id given

-- the keys of all rows that may be named
abbrev pub HasKeys : {S : Type 0} → List Written → IndexSet RowKey S → Type 0
HasKeys all keys = (object : ℕ) (id : List ℕ) → IsId id → contains key_eq keys (key object id) ≡ is_there all object id
