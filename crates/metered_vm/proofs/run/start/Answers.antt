use Rattle.std.proofs.Common.{[], subst, sym}
use Rattle.metered_vm.specs.Keeps.{Stands}
use Rattle.metered_vm.specs.Runs.{Ran}
use Rattle.metered_vm.proofs.Running.{first_ran}
use Rattle.metered_vm.proofs.Once.{first_stands}
use Rattle.metered_vm.proofs.run.start.Goals as goal

pub returns-clause-ran : goal.returns-clause-ran
returns-clause-ran c =
    λ tenant ticket image. subst (λ x. Ran tenant ticket image c.args.block [] 0 x) (sym c.first_config.ensures) (first_ran tenant ticket image c.args.block)

pub returns-clause-stands : goal.returns-clause-stands
returns-clause-stands c =
    λ image h. subst (λ x. Stands image x) (sym c.first_config.ensures) (first_stands image c.args.block h)
