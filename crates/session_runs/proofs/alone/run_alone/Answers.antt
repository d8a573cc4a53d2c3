use Rattle.std.proofs.Common.{[]}
use Rattle.session_runs.proofs.Machine.{at_first}
use Rattle.session_runs.proofs.alone.run_alone.Goals as goal

pub run_without-requires-clause-first : goal.run_without-requires-clause-first
run_without-requires-clause-first c =
    at_first c.args.schema.now c.args.ticket c.args.image.now c.args.block [] c.start-vm.result
    (c.start-vm.ensures.ran c.args.schema.now c.args.ticket c.args.image.now) (c.start-vm.ensures.stands c.args.image.now c.requires.checked)
