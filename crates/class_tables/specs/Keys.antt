-- Methods by their kinds, names and numbers of parameters.
use Rattle.std.specs.Prelude.{ℕ, Bool, cond, List, [], ◌∷◌, Option, None, Some}
use Rattle.schema_names.specs.Names.{one_more}
use Rattle.class_tables.specs.declared.key.MethodKey.{MethodKey}
use Rattle.class_tables.specs.contracts.key.MethodKeyPartialEq.TheImpl.{ghosts}

-- kinds, names and numbers are equal
abbrev pub key_eq : MethodKey → MethodKey → Bool
key_eq = ghosts.eq

abbrev pub key : Bool → List ℕ → ℕ → MethodKey
key is_static name count = record { is_static = is_static; name = name; count = count }

-- the place of the first of these keys that is this one
abbrev pub place_of_key : List MethodKey → MethodKey → Option ℕ
place_of_key [] k = None
place_of_key (j ∷ js) k = cond (key_eq j k) (Some 0) (one_more (place_of_key js k))
