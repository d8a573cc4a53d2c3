use Rattle.std.proofs.Common.{◌∙◌}
use Rattle.query_finding.specs.Steps.{test_of}
use Rattle.query_finding.proofs.Seeing.{keeps}
use Rattle.query_finding.proofs.keeps.keep.Goals as goal

pub returns : goal.returns
returns c =
    c.of.ensures
    ∙ keeps c.args.schema.now c.args.binds.now c.args.query.now (test_of c.args.under c.args.ids.now) c.new-reader.result c.args.known.now c.args.rows c.in_ok-tested.tested.items c.in_ok-sift.field-0.items
    c.new-reader.ensures c.in_ok-tested.ensures c.in_ok-sift.ensures
