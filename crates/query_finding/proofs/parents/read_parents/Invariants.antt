use Rattle.std.proofs.Common.{drop}
use Rattle.query_finding.specs.Steps.{site_of}
use Rattle.query_finding.proofs.Over.{ReadsOn}
use Rattle.query_finding.proofs.parents.read_parents.Given as goal

abbrev pub invariant-loop-path : goal.invariant-loop-path
invariant-loop-path l = ReadsOn (site_of l.schema l.ticket) l.overlay l.object l.paths l.rows l.fn.answers (drop l.path-index l.paths) l.known l.answers
