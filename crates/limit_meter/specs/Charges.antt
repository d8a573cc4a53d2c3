-- Charges and leaves, and what they come to (docs/platform.md, "Limits").
use Rattle.std.specs.Prelude.{◌≡◌, ℕ, ◌+◌, ◌-◌, ◌≤◌, Bool, cond, eqb, leb, List, [], ◌∷◌, slice_index, slice_set}
use Rattle.apex_num.specs.declared.kind.LimitKind.{LimitKind}
use Rattle.apex_num.specs.declared.kind.LimitKind.TheVariants.{Queries, Rows, Dml, Saved, Depth, Steps, Alloc, Calls}

-- what one request may have of each kind
abbrev pub limit_of : LimitKind → ℕ
limit_of Queries = 100
limit_of Rows = 50000
limit_of Dml = 150
limit_of Saved = 10000
limit_of Depth = 16
limit_of Steps = 1000000
limit_of Alloc = 64000000
limit_of Calls = 1000

-- the place of a kind's counter in a meter
abbrev pub place_of : LimitKind → ℕ
place_of Queries = 0
place_of Rows = 1
place_of Dml = 2
place_of Saved = 3
place_of Depth = 4
place_of Steps = 5
place_of Alloc = 6
place_of Calls = 7

abbrev pub is_kind : LimitKind → LimitKind → Bool
is_kind k j = eqb (place_of k) (place_of j)

-- what was charged and left
pub data Entry : Type 0 where
  Charged : LimitKind → ℕ → Entry
  Left : LimitKind → Entry

-- the sum of the charges of a kind
abbrev pub charged : LimitKind → List Entry → ℕ
charged k [] = 0
charged k (Charged j n ∷ es) = cond (is_kind k j) n 0 + charged k es
charged k (Left j ∷ es) = charged k es

-- how often a kind was left
abbrev pub leaves : LimitKind → List Entry → ℕ
leaves k [] = 0
leaves k (Charged j n ∷ es) = leaves k es
leaves k (Left j ∷ es) = cond (is_kind k j) 1 0 + leaves k es

-- the counter of a kind: its charges less its leaves
abbrev pub counter : LimitKind → List Entry → ℕ
counter k es = charged k es - leaves k es

-- whether a charge fits: with it the counter is at most the limit
abbrev pub fits : LimitKind → ℕ → List Entry → Bool
fits k n es = leb (counter k es + n) (limit_of k)

-- the counter of a kind in a meter
abbrev pub count_of : List ℕ → LimitKind → ℕ
count_of m k = slice_index m (place_of k)

-- the meter with another counter of a kind
abbrev pub with_count : List ℕ → LimitKind → ℕ → List ℕ
with_count m k n = slice_set m (place_of k) n

-- the meter of a request that begins
abbrev pub no_counts : List ℕ
no_counts = 0 ∷ 0 ∷ 0 ∷ 0 ∷ 0 ∷ 0 ∷ 0 ∷ 0 ∷ []

-- the meter has the counters of these charges and leaves, and nothing was left that wasn't charged before
pub record Counts (es : List Entry) (m : List ℕ) : Type 0 where
  pub each : (k : LimitKind) → count_of m k ≡ counter k es
  pub sound : (k : LimitKind) → leaves k es ≤ charged k es
