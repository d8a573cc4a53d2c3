use Rattle.std.proofs.Common.{◌≡◌, drop}
use Rattle.std.specs.List.{list_any}
use Rattle.builtin_table.specs.Meanings.{is_null}
use Rattle.builtin_table.proofs.call.has_null.Given as goal

abbrev pub invariant-loop-cell : goal.invariant-loop-cell
invariant-loop-cell l = list_any is_null (drop l.cell-index l.args) ≡ list_any is_null l.args
