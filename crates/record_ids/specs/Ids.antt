-- Ids and their parts (docs/platform.md, "Ids"): three characters of the object, and four digits each of a session, a
-- request and a count.
use Rattle.std.specs.Prelude.{◌≡◌, ◌<◌, ℕ, suc, ◌+◌, ◌^◌, ◌&&◌, Bool, List, ◌++◌, codes, take, drop, length, bytes_eq, Option, None, Some, All}
use Rattle.apex_num.specs.Ids.{IsAlphanumeric}
use Rattle.row_meaning.specs.Users.{four, user_id}

-- what four digits can say
abbrev pub most : ℕ
most = 62 ^ 4

-- an object's prefix
abbrev pub IsPrefix : List ℕ → Type 0
IsPrefix prefix = (length prefix ≡ 3) × All IsAlphanumeric prefix

-- the Id that a request makes as its count-th one; sessions and requests count from 0
abbrev pub minted_id : List ℕ → ℕ → ℕ → ℕ → List ℕ
minted_id prefix session request count = prefix ++ four (session + 1) ++ four request ++ four count

-- an Id that this request of this session made
abbrev pub is_minted_by : ℕ → ℕ → List ℕ → Bool
is_minted_by session request id = bytes_eq (take 4 (drop 3 id)) (four (session + 1)) && bytes_eq (take 4 (drop 7 id)) (four request)

-- an Id of an object with this prefix that no session made
abbrev pub is_seed_id : List ℕ → List ℕ → Bool
is_seed_id prefix id = bytes_eq (take 3 id) prefix && bytes_eq (take 4 (drop 3 id)) (codes "0000")

-- the number of the user whose Id it is, and no other
abbrev pub IsUserNumber : List ℕ → Option ℕ → Type 0
IsUserNumber id (Some u) = (id ≡ user_id u) × (suc u < most) × ((other : ℕ) → suc other < most → id ≡ user_id other → other ≡ u)
IsUserNumber id None = (u : ℕ) → suc u < most → id ≡ user_id u → ⊥
