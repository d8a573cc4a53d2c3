-- A user who looks at rows, with what was shared with the user (docs/platform.md, "Sharing").
use Rattle.std.specs.Prelude.{◌≡◌, ◌<◌, ℕ, List, length, slice_get, bytes_eq, Option, None, Some}
use Rattle.indexmap.specs.IndexMap.{IndexMap, get}
use Rattle.apex_schema.specs.declared.schema.Access.{Access}
use Rattle.apex_schema.specs.declared.schema.Access.TheVariants.{Nothing}
use Rattle.apex_schema.specs.declared.schema.Schema.{Schema}
use Rattle.apex_rows.specs.declared.row.Row.{Row}
use Rattle.row_meaning.specs.Accesses.{role_of, shared, access}
use Rattle.row_meaning.specs.Users.{user_id}
use Rattle.record_ids.specs.Ids.{most}
use Rattle.row_access.specs.declared.ranks.Rank.{Rank}
use Rattle.row_access.specs.Ranks.{AllTellOf}

-- a user by its number, and RowShare rows
pub record View : Type 0 where
  pub schema : Schema
  pub user : ℕ
  pub shares : List Row

abbrev pub access_of : View → Row → Access
access_of v row = access v.schema v.user row v.shares

abbrev pub or_nothing : Option Access → Access
or_nothing None = Nothing
or_nothing (Some level) = level

-- what a map from Ids of rows gives on a row
abbrev pub level_in : {S : Type 0} → IndexMap (List ℕ) Access S → List ℕ → Access
level_in levels id = or_nothing (get bytes_eq levels id)

-- the map gives on each row what the RowShare rows give the user with this Id
abbrev pub HasLevels : {S : Type 0} → IndexMap (List ℕ) Access S → List Row → List ℕ → Type 0
HasLevels levels shares user = (id : List ℕ) → level_in levels id ≡ shared shares id user

-- what was looked up is what the schema and the shares say
pub record IsLookedUp {S : Type 0} (schema : Schema) (user : ℕ) (shares : List Row) (id : List ℕ) (role : Option ℕ) (ranks : List (Option Rank)) (levels : IndexMap (List ℕ) Access S) : Type 0 where
  pub users : length schema.users < most
  pub is_id : id ≡ user_id user
  pub is_role : role ≡ role_of (slice_get schema.users user)
  pub has_ranks : AllTellOf schema.roles role ranks
  pub has_levels : HasLevels levels shares id
