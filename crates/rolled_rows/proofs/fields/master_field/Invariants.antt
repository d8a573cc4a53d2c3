use Rattle.std.proofs.Common.{◌≡◌, take, None}
use Rattle.std.specs.List.{position_from}
use Rattle.apex_schema.specs.declared.schema.Field.{Field}
use Rattle.rolled_rows.specs.RollUps.{is_object, master_of}
use Rattle.rolled_rows.proofs.fields.master_field.Given as goal

abbrev pub invariant-fields : goal.invariant-fields
invariant-fields l = position_from (λ (f : Field). is_object l.master (master_of f.kind)) 0 (take l.i l.fields) ≡ None
