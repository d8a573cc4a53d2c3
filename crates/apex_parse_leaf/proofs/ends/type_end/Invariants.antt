use Rattle.std.proofs.Common.{[], length}
use Rattle.token_grammar.specs.Notation.{seen}
use Rattle.apex_parse_leaf.specs.declared.ends.Next.TheVariants.{Due}
use Rattle.apex_parse_leaf.specs.Ends.{GoesOn}
use Rattle.apex_parse_leaf.proofs.LookSteps.{left}
use Rattle.apex_parse_leaf.proofs.ends.type_end.Given as goal

abbrev pub invariant-types : goal.invariant-types
invariant-types l = GoesOn (seen l.tokens) (Due l.at) [] l.next l.levels

abbrev pub decreases-types : goal.decreases-types
decreases-types l = left (length (seen l.tokens)) l.next
