use Rattle.std.proofs.Common.{◌≡◌, ◌+◌, drop}
use Rattle.apex_meaning.specs.Classes.{in_instances}
use Rattle.stack_compiler.proofs.chains.in_instances.Given as goal

abbrev pub invariant-loop-field : goal.invariant-loop-field
invariant-loop-field l = l.count + in_instances (drop l.field-index l.fields) ≡ in_instances l.fields
