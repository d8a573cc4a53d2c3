use Rattle.std.proofs.Common.{sym, length}
use Rattle.schema_build.proofs.ChainSteps.{is_within}
use Rattle.schema_build.proofs.chains.ends.Goals as goal

pub returns-in-Some-clause-ends : goal.returns-in-Some-clause-ends
returns-in-Some-clause-ends c = let h = c.in-Some.ensures in sym (is_within c.args.parents.now (length c.args.parents.now) c.in-Some.count c.args.from h.1 h.0)
