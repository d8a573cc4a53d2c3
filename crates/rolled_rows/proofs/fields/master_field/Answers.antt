use Rattle.std.proofs.Common.{ap, sym, ◌∙◌}
use Rattle.std.specs.List.{position_from}
use Rattle.apex_schema.specs.declared.schema.Field.{Field}
use Rattle.rolled_rows.specs.RollUps.{is_object, master_of}
use Rattle.rolled_rows.proofs.Places.{first_at, none_more}
use Rattle.rolled_rows.proofs.fields.master_field.Goals as goal

pub returns-then-leads_to : goal.returns-then-leads_to
returns-then-leads_to c =
    sym (first_at (λ (f : Field). is_object c.args.master (master_of f.kind)) c.fields_of-fields.result.now c.fields.i c.index-fields-i.result c.fields-test.true c.index-fields-i.is c.fields.invariant (ap (λ (f : Field). is_object c.args.master (master_of f.kind)) c.index-fields-i.is ∙ sym c.leads_to.ensures ∙ c.if-leads_to.true))
    ∙ ap (position_from (λ (f : Field). is_object c.args.master (master_of f.kind)) 0) c.fields_of-fields.ensures

pub fields-preserved : goal.fields-preserved
fields-preserved c =
    none_more (λ (f : Field). is_object c.args.master (master_of f.kind)) c.fields_of-fields.result.now c.fields.i c.index-fields-i.result c.fields-test.true c.index-fields-i.is c.fields.invariant (ap (λ (f : Field). is_object c.args.master (master_of f.kind)) c.index-fields-i.is ∙ sym c.leads_to.ensures ∙ c.if-leads_to.false)
