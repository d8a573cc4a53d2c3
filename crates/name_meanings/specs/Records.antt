-- Fields of records as code sees them (docs/language.md, "Names in code").
use Rattle.std.specs.Prelude.{ℕ, Bool, true, false, List, slice_get, Option, None, Some}
use Rattle.apex_schema.specs.declared.schema.Field.{Field}
use Rattle.apex_schema.specs.declared.schema.FieldKind.{FieldKind}
use Rattle.apex_schema.specs.declared.schema.FieldKind.TheVariants as F
use Rattle.apex_schema.specs.declared.schema.Object.{Object}
use Rattle.static_types.specs.declared.kind.Primitive.{Primitive}
use Rattle.static_types.specs.declared.kind.Primitive.TheVariants as P

abbrev pub cell_type : FieldKind → Primitive
cell_type F.Id = P.Id
cell_type (F.Text most) = P.String
cell_type F.Number = P.Decimal
cell_type F.Checkbox = P.Boolean
cell_type F.Date = P.Date
cell_type F.Datetime = P.Datetime
cell_type (F.Lookup link) = P.Id
cell_type (F.MasterDetail link) = P.Id
cell_type (F.Rollup r) = P.Decimal

-- roll-ups are computed
abbrev pub may_set_cell : FieldKind → Bool
may_set_cell (F.Rollup r) = false
may_set_cell _ = true

abbrev pub parent_object : FieldKind → Option ℕ
parent_object (F.Lookup link) = Some link.to
parent_object (F.MasterDetail link) = Some link.to
parent_object _ = None

abbrev pub field_of : Option Object → ℕ → Option Field
field_of (Some o) n = slice_get o.fields n
field_of None n = None

abbrev pub field_in : List Object → ℕ → ℕ → Option Field
field_in objects object n = field_of (slice_get objects object) n
