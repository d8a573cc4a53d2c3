use Rattle.std.proofs.Common.{◌-◌, length}
use Rattle.token_grammar.proofs.Chain.{SoFar}
use Rattle.apex_parse_unit.specs.Members as members
use Rattle.apex_parse_unit.specs.Classes as classes
use Rattle.apex_parse_unit.proofs.interfaces.signatures.Given as goal

abbrev pub invariant-all : goal.invariant-all
invariant-all l = SoFar l.tokens (members.next_if members.begins_result) (classes.signature l.room) l.at l.all l.end

abbrev pub decreases-all : goal.decreases-all
decreases-all l = length l.tokens - l.end
