-- Who may see and change a row (docs/platform.md, "Sharing").
use Rattle.std.specs.Prelude.{ℕ, zero, suc, ◌&&◌, ◌||◌, eqb, Bool, false, cond, List, [], ◌∷◌, length, slice_get, bytes_eq, codes, Option, None, Some}
use Rattle.apex_num.specs.declared.cell.Cell.{Cell}
use Rattle.apex_num.specs.declared.cell.Cell.TheVariants.{Text, Id}
use Rattle.apex_schema.specs.declared.schema.Access.{Access}
use Rattle.apex_schema.specs.declared.schema.Access.TheVariants.{Nothing, Read, Edit}
use Rattle.apex_schema.specs.declared.schema.Role.{Role}
use Rattle.apex_schema.specs.declared.schema.User.{User}
use Rattle.apex_schema.specs.declared.schema.Object.{Object}
use Rattle.apex_schema.specs.declared.schema.Schema.{Schema}
use Rattle.apex_rows.specs.declared.row.Row.{Row}
use Rattle.row_meaning.specs.Conds.{cell_of}
use Rattle.row_meaning.specs.Users.{user_id}

abbrev pub greater : Access → Access → Access
greater Edit b = Edit
greater Read Edit = Edit
greater Read b = Read
greater Nothing b = b

-- everybody's access to the rows of an object
abbrev pub default_of : Option Object → Access
default_of None = Nothing
default_of (Some o) = o.default

-- an Id cell has this Id
abbrev pub is_id : Cell → List ℕ → Bool
is_id (Id i) id = bytes_eq i id
is_id _ id = false

-- the role of the user with this Id, if it is a user's
abbrev pub role_from : ℕ → List User → Cell → Option ℕ
role_from number [] cell = None
role_from number (u ∷ us) cell = cond (is_id cell (user_id number)) u.role (role_from (suc number) us cell)

-- the role above a role
abbrev pub parent_of : Option Role → Option ℕ
parent_of None = None
parent_of (Some r) = r.parent

-- a role is the wanted one, or something holds from there on
abbrev pub reached : ℕ → Option ℕ → (ℕ → Bool) → Bool
reached wanted None further = false
reached wanted (Some above) further = eqb above wanted || further above

-- one of the roles above this one, up to so many steps, is the wanted one
abbrev pub is_above : ℕ → List Role → ℕ → ℕ → Bool
is_above zero roles from wanted = false
is_above (suc steps) roles from wanted = reached wanted (parent_of (slice_get roles from)) (λ above. is_above steps roles above wanted)

abbrev pub has_role_above : List Role → Option ℕ → Option ℕ → Bool
has_role_above roles (Some owner) (Some r) = is_above (length roles) roles owner r
has_role_above roles _ _ = false

abbrev pub role_of : Option User → Option ℕ
role_of None = None
role_of (Some u) = u.role

-- the level that a RowShare row has; another text than these two gives nothing
abbrev pub level_of : Cell → Access
level_of (Text t) = cond (bytes_eq t (codes "Edit")) Edit (cond (bytes_eq t (codes "Read")) Read Nothing)
level_of _ = Nothing

-- what a list of RowShare rows gives a user on a row: fields 2, 3 and 4 are RowId, UserId and Level
abbrev pub shared : List Row → List ℕ → List ℕ → Access
shared [] row user = Nothing
shared (s ∷ ss) row user = greater (cond (is_id (cell_of s 2) row && is_id (cell_of s 3) user) (level_of (cell_of s 4)) Nothing) (shared ss row user)

-- the access of a user to a row: the greatest of what everybody has, of what the owner has, of what those have whose
-- role is above the owner's, and of what was shared
abbrev pub access : Schema → ℕ → Row → List Row → Access
access schema user row shares =
    greater (default_of (slice_get schema.objects row.object))
    (greater (cond (is_id (cell_of row 1) (user_id user)) Edit Nothing)
    (greater (cond (has_role_above schema.roles (role_from 0 schema.users (cell_of row 1)) (role_of (slice_get schema.users user))) Edit Nothing)
    (shared shares row.id (user_id user))))
