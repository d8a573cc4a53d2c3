use Rattle.std.proofs.Common.{◌-◌, length}
use Rattle.apex_parse_leaf.proofs.Pairs.{Counted}
use Rattle.apex_parse_leaf.proofs.types.arrays.Given as goal

abbrev pub invariant-pairs : goal.invariant-pairs
invariant-pairs l = Counted l.tokens l.room l.at l.count l.end

abbrev pub decreases-pairs : goal.decreases-pairs
decreases-pairs l = length l.tokens - l.end
