-- The fields of a schema that name rows (docs/platform.md, "Saves").
use Rattle.std.specs.Prelude.{ℕ, Bool, true, false, Option}
use Rattle.apex_schema.specs.declared.schema.FieldKind.{FieldKind}
use Rattle.save_statements.specs.Records.{master_to, lookup_to}

-- the object to which a field leads, as a lookup or as a master
abbrev pub leads_by : Bool → FieldKind → Option ℕ
leads_by true kind = lookup_to kind
leads_by false kind = master_to kind
