use Rattle.program_weights.specs.Weights.{weight}
use Rattle.metered_vm.specs.Runs.{OnWay}
use Rattle.metered_vm.proofs.run.resume.Given as goal

abbrev pub invariant-steps : goal.invariant-steps
invariant-steps l = OnWay l.schema l.ticket l.image l.fn.vm l.fn.answer l.vm.ops l.vm.config

abbrev pub decreases-steps : goal.decreases-steps
decreases-steps l = weight l.image l.vm.config
