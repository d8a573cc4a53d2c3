use Rattle.std.proofs.Common.{refl, ap, sym, ◌∙◌}
use Rattle.std.proofs.lemmas.Bool.{eq-eqb}
use Rattle.apex_schema.specs.declared.schema.Field.{Field}
use Rattle.rolled_rows.specs.Groups.{is_over}
use Rattle.rolled_rows.specs.RollUps.{fields_of, rollup_of}
use Rattle.rolled_rows.proofs.Places.{any_at}
use Rattle.rolled_rows.proofs.rolled.roll_field.Goals as goal

pub rolled_cell-requires : goal.rolled_cell-requires
rolled_cell-requires c =
    let detail = c.in-Some.rollup.detail in
    any_at (λ (f : Field). is_over detail (rollup_of f.kind)) (fields_of c.args.details.now.schema.now c.args.master.now.object) c.args.n c.args.field.now c.requires
    (ap (is_over detail) (sym c.in-Some.ensures) ∙ eq-eqb detail detail refl)
