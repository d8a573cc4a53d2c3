use Rattle.std.proofs.Common.{◌-◌, length}
use Rattle.soql_parse.proofs.Paths.{Linked}
use Rattle.soql_parse.proofs.path.links.Given as goal

abbrev pub invariant-links : goal.invariant-links
invariant-links l = Linked l.tokens l.start l.initial.at l.fn.first l.names l.at

abbrev pub decreases-links : goal.decreases-links
decreases-links l = length l.tokens - l.at
