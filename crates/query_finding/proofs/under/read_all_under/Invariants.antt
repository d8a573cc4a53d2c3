use Rattle.std.proofs.Common.{drop}
use Rattle.query_finding.specs.Steps.{site_of}
use Rattle.query_finding.proofs.Below.{FindsOn}
use Rattle.query_finding.proofs.under.read_all_under.Given as goal

abbrev pub invariant-loop-sub : goal.invariant-loop-sub
invariant-loop-sub l = FindsOn (site_of l.schema l.ticket) l.overlay l.mode l.binds l.subs l.ids l.fn.answers (drop l.sub-index l.subs) l.all l.answers
