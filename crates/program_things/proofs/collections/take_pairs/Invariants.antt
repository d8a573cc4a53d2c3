use Rattle.std.proofs.Common.{◌≡◌, ◌+◌, ◌-◌, [], reverse}
use Rattle.stack_code.specs.Machine.{taken}
use Rattle.program_things.specs.Collects.{flat}
use Rattle.program_things.proofs.collections.take_pairs.Given as goal

abbrev pub invariant-pairs : goal.invariant-pairs
invariant-pairs l = taken ((l.count - l.i) + (l.count - l.i)) l.stack (flat (reverse l.pairs.items)) ≡ taken (l.count + l.count) l.fn.stack []
