use Rattle.std.proofs.Common.{◌≡◌, ◌++◌}
use Rattle.platform_errors.specs.declared.record.RecordError.TheVariants.{InTrigger}
use Rattle.save_statements.specs.Firings.{thrown_in}
use Rattle.save_firings.proofs.throwing.threw.Given as goal

abbrev pub invariant-loop-entry : goal.invariant-loop-entry
invariant-loop-entry l =
    l.after ++ thrown_in (InTrigger l.name l.class l.message) l.entry-iterator.rest.items ≡ thrown_in (InTrigger l.name l.class l.message) l.fn.entries
