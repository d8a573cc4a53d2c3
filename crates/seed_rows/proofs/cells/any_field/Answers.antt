use Rattle.std.proofs.Common.{◌≡◌, true, false, sym, ◌∙◌}
use Rattle.seed_rows.specs.Views.{all_as_written, test_of}
use Rattle.seed_rows.specs.Words as spec
use Rattle.seed_rows.proofs.Steps.{any_at, any_more}
use Rattle.seed_rows.proofs.cells.any_field.Goals as goal

pub returns-then-passes : goal.returns-then-passes
returns-then-passes c =
    let test = test_of (all_as_written c.args.ground.now.all.now) c.args.check in
    let p : spec.passes test c.index-fields-i.result c.index-known-i.result ≡ true = sym c.passes.ensures ∙ c.if-passes.true in
    sym (any_at test c.args.fields.now c.args.known.now c.fields.i c.index-fields-i.result c.index-known-i.result c.requires c.fields-test.true c.index-fields-i.is c.index-known-i.is p)

pub fields-preserved : goal.fields-preserved
fields-preserved c =
    let test = test_of (all_as_written c.args.ground.now.all.now) c.args.check in
    let p : spec.passes test c.index-fields-i.result c.index-known-i.result ≡ false = sym c.passes.ensures ∙ c.if-passes.false in
    any_more test c.args.fields.now c.args.known.now c.fields.i c.index-fields-i.result c.index-known-i.result c.requires c.fields-test.true c.index-fields-i.is c.index-known-i.is c.fields.invariant p
