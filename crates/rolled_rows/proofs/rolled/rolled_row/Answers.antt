use Rattle.std.proofs.Common.{ap, sym, ◌∙◌}
use Rattle.apex_schema.specs.declared.schema.Field.{Field}
use Rattle.rolled_rows.specs.Groups.{with_cell}
use Rattle.rolled_rows.specs.RollUps.{by_range, comes_to, fields_of, first_out, goes_out, new_cells, rollup_of}
use Rattle.rolled_rows.proofs.Cells.{cells_more}
use Rattle.rolled_rows.proofs.Places.{first_at, none_more}
use Rattle.rolled_rows.proofs.rolled.rolled_row.Goals as goal

pub returns-in-Err-OutOfRange : goal.returns-in-Err-OutOfRange
returns-in-Err-OutOfRange c =
    let master = c.args.master.now in
    let schema = c.args.details.now.schema.now in
    let value = comes_to schema c.args.details.now.rows.now master in
    sym (
    ap (λ o. by_range o (new_cells value (fields_of schema master.object) master.cells))
    (ap (first_out value) (sym c.fields_of-fields.ensures)
    ∙ first_at (λ (f : Field). goes_out value (rollup_of f.kind)) c.fields_of-fields.result.now c.fields.n c.index-fields-n.result c.fields-test.true c.index-fields-n.is c.fields.invariant.none c.in-Err-OutOfRange.ensures)
    )

pub fields-preserved : goal.fields-preserved
fields-preserved c =
    let master = c.args.master.now in
    let value = comes_to c.args.details.now.schema.now c.args.details.now.rows.now master in
    let fields = c.fields_of-fields.result.now in
    record {
      none = none_more (λ (f : Field). goes_out value (rollup_of f.kind)) fields c.fields.n c.index-fields-n.result c.fields-test.true c.index-fields-n.is c.fields.invariant.none c.in_default.ensures.0;
      cells =
          c.in_default.ensures.1
          ∙ ap (λ l. with_cell value (rollup_of c.index-fields-n.result.kind) l c.fields.n) c.fields.invariant.cells
          ∙ sym (cells_more value fields master.cells c.fields.n c.index-fields-n.result c.fields-test.true c.index-fields-n.is);
    }
