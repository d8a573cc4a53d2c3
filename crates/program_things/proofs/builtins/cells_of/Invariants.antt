use Rattle.std.proofs.Common.{◌≡◌, ◌++◌, map}
use Rattle.apex_meaning.specs.Builtins.{cell_in}
use Rattle.program_things.proofs.builtins.cells_of.Given as goal

abbrev pub invariant-loop-value : goal.invariant-loop-value
invariant-loop-value l = l.cells.items ++ map cell_in l.value-iterator.rest.items ≡ map cell_in l.fn.values.items
