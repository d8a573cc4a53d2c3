use Rattle.std.proofs.Common.{◌∙◌}
use Rattle.query_finding.proofs.Seeing.{all_pass}
use Rattle.query_finding.proofs.keeps.tested.Goals as goal

pub returns-in-None : goal.returns-in-None
returns-in-None c = c.into_vec.ensures ∙ all_pass c.args.under c.args.ids.now c.args.rows c.in-None.is
