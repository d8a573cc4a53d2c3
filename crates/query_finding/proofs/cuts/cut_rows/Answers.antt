use Rattle.std.proofs.Common.{List, ap, ◌∙◌}
use Rattle.apex_rows.specs.declared.row.Row.{Row}
use Rattle.query_rows.specs.Cuts.{cut_of}
use Rattle.query_rows.specs.Read.{Read}
use Rattle.query_finding.proofs.cuts.cut_rows.Goals as goal

pub returns : goal.returns
returns c =
    c.of.ensures ∙ c.in_ok-cut.ensures ∙ ap (λ (x : Read). cut_of x c.args.binds.now c.args.query.now c.into_vec.result.items) c.new-reader.ensures
    ∙ ap (λ (rows : List Row). cut_of (record { schema = c.args.schema.now; known = c.args.known.now }) c.args.binds.now c.args.query.now rows) c.into_vec.ensures
