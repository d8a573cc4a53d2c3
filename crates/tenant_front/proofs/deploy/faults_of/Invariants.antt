use Rattle.std.proofs.Common.{◌≡◌, map, take}
use Rattle.tenant_front.specs.Parts.{fault_of}
use Rattle.tenant_front.proofs.deploy.faults_of.Given as goal

abbrev pub invariant-loop-block : goal.invariant-loop-block
invariant-loop-block l = l.all ≡ map fault_of (take l.block-index l.blocks)
