use Rattle.std.proofs.Common.{◌≡◌, ◌≤◌, drop, length}
use Rattle.std.specs.Prelude.{None, replicate}
use Rattle.std.specs.Option.{option_copied}
use Rattle.request_states.specs.Expressions.{with_pairs, width}
use Rattle.stack_code.specs.Things.{paired}
use Rattle.program_things.proofs.records.new_cells.Given as goal

abbrev pub invariant-loop-value : goal.invariant-loop-value
invariant-loop-value l =
    (l.i ≤ length l.fields) × (with_pairs (paired (drop l.i l.fields) l.value-iterator.rest.items) l.cells ≡ with_pairs (paired l.fields l.fn.values.items) (replicate (width (option_copied l.object)) None))
