-- Tables of rows with a key each.
use Rattle.std.specs.Prelude.{◌≡◌, ◌≢◌, ℕ, ◌+◌, ◌<◌, List, length, slice_index_or}
use Rattle.std.specs.Ordering.{nat_cmp}
use Rattle.std.specs.Cmp.Lexicographic.{slice_cmp}
use Rattle.std.specs.declared.cmp.Ordering.{Ordering}
use Rattle.std.specs.declared.cmp.Ordering.TheVariants.{Less}

-- the order of byte strings
abbrev pub bytes_cmp : List ℕ → List ℕ → Ordering
bytes_cmp = slice_cmp nat_cmp

module _ {R : Type 0} (key : R → List ℕ) where
  -- each key is below that of the next row
  abbrev pub Rises : List R → Type 0
  Rises rows = (i : ℕ) (d : R) → i + 1 < length rows → bytes_cmp (key (slice_index_or rows i d)) (key (slice_index_or rows (i + 1) d)) ≡ Less

  -- the row is one of these, and has this key
  abbrev pub HasKey : List R → List ℕ → R → Type 0
  HasKey rows k row = (key row ≡ k) × ((i : ℕ) × (i < length rows) × ((d : R) → slice_index_or rows i d ≡ row))

  -- no row has this key
  abbrev pub LacksKey : List R → List ℕ → Type 0
  LacksKey rows k = (i : ℕ) (d : R) → i < length rows → key (slice_index_or rows i d) ≢ k
