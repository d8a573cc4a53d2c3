use Rattle.std.proofs.Common.{◌≡◌, ◌≤◌, ◌-◌, ◌++◌, take, drop, length}
use Rattle.apex_meaning.specs.Preparing.{unprepared}
use Rattle.metered_vm.proofs.classes.unprepared.Given as goal

abbrev pub invariant-chain : goal.invariant-chain
invariant-chain l = (l.count ≤ length l.chain) × (take l.count l.chain ++ unprepared l.statics (drop l.count l.chain) ≡ unprepared l.statics l.chain)

abbrev pub decreases-chain : goal.decreases-chain
decreases-chain l = length l.chain - l.count
