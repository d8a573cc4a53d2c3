-- What may be wrong with a row of a seed whose cells are known (docs/formats.md, "Seeds").
use Rattle.std.specs.Prelude.{ℕ, zero, suc, ◌&&◌, ◌||◌, not, nat_lt, Bool, true, false, List, [], ◌∷◌, map, slice_get, bytes_eq, Option, None, Some}
use Rattle.apex_num.specs.declared.cell.Cell.{Cell}
use Rattle.apex_num.specs.declared.cell.Cell.TheVariants.{Null, Text, Id}
use Rattle.apex_schema.specs.declared.schema.Field.{Field}
use Rattle.apex_schema.specs.declared.schema.FieldKind.{FieldKind}
use Rattle.apex_schema.specs.declared.schema.FieldKind.TheVariants as Kind
use Rattle.apex_schema.specs.declared.schema.Object.{Object}
use Rattle.apex_rows.specs.declared.row.Row.{Row}
use Rattle.fault_words.specs.declared.fault.FaultWord.{FaultWord}
use Rattle.fault_words.specs.declared.fault.FaultWord.TheVariants.{BadCell, BadId, Missing, UnknownRow}
use Rattle.row_meaning.specs.Rules.{text_length}
use Rattle.row_meaning.specs.Stores.{has_id}
use Rattle.row_meaning.specs.Users.{user_id}
use Rattle.record_ids.specs.Ids.{is_seed_id}
use Rattle.row_cells.specs.Rows.{Known}
use Rattle.seed_rows.specs.Written.{Written, is_there}

-- ---- single cells

-- a text has more scalars than its field takes
abbrev pub is_long : FieldKind → Option Cell → Bool
is_long (Kind.Text most) (Some c) = nat_lt most (text_length c)
is_long _ _ = false

-- a field that a row must have a value in; roll-ups aren't written
abbrev pub is_needed : Bool → FieldKind → Bool
is_needed required (Kind.MasterDetail link) = true
is_needed required (Kind.Rollup rollup) = false
is_needed required _ = required

-- nothing, null or an empty text
abbrev pub is_blank : Option Cell → Bool
is_blank None = true
is_blank (Some Null) = true
is_blank (Some (Text [])) = true
is_blank _ = false

-- no row of the object has the Id
abbrev pub is_missing : List Written → ℕ → List ℕ → Bool
is_missing all object id = not (is_there all object id)

-- a Lookup or MasterDetail cell names no row of the seed
abbrev pub leads_nowhere : List Written → FieldKind → Option Cell → Bool
leads_nowhere all (Kind.Lookup link) (Some (Id id)) = is_missing all link.to id
leads_nowhere all (Kind.MasterDetail link) (Some (Id id)) = is_missing all link.to id
leads_nowhere all _ _ = false

-- ---- the cells of a row

-- a test of a field and what is known of it
pub data Test : Type 0 where
  TooLong : Test
  Lacking : Test
  Dangling : List Written → Test

abbrev pub passes : Test → Field → Option Cell → Bool
passes TooLong f k = is_long f.kind k
passes Lacking f k = is_needed f.required f.kind && is_blank k
passes (Dangling all) f k = leads_nowhere all f.kind k

-- one of the fields passes it
abbrev pub any_field : Test → List Field → Known → Bool
any_field test [] known = false
any_field test (f ∷ fs) [] = false
any_field test (f ∷ fs) (k ∷ ks) = passes test f k || any_field test fs ks

-- it has no Id, or one that isn't its object's, that a session made, or that a row before it has
abbrev pub is_bad_id : List ℕ → List Row → Option (Option Cell) → Bool
is_bad_id prefix before (Some (Some (Id id))) = not (is_seed_id prefix id) || has_id (map (λ (r : Row). r.id) before) id
is_bad_id prefix before _ = true

-- the Id of one of so many users
abbrev pub is_user : ℕ → List ℕ → Bool
is_user zero id = false
is_user (suc n) id = bytes_eq id (user_id n) || is_user n id

-- an owner is written, and is no user
abbrev pub is_no_owner : ℕ → Option (Option Cell) → Bool
is_no_owner users (Some (Some (Id id))) = not (is_user users id)
is_no_owner users (Some (Some _)) = true
is_no_owner users _ = false

abbrev pub first_of : Bool → FaultWord → Option FaultWord → Option FaultWord
first_of true word rest = Some word
first_of false word rest = rest

-- the first thing that is wrong with a row whose cells are known, in a schema of so many users
abbrev pub word_of : ℕ → List Written → List Row → Object → Known → Option FaultWord
word_of users all before o known =
    first_of (any_field TooLong o.fields known) BadCell
    (first_of (is_bad_id o.prefix before (slice_get known 0)) BadId
    (first_of (any_field Lacking o.fields known) Missing
    (first_of (is_no_owner users (slice_get known 1) || any_field (Dangling all) o.fields known) UnknownRow None)))
