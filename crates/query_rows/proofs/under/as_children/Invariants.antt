use Rattle.std.proofs.Common.{◌≡◌, ◌++◌}
use Rattle.query_rows.specs.Cuts.{children_with}
use Rattle.query_rows.proofs.under.as_children.Given as goal

abbrev pub invariant-loop-row : goal.invariant-loop-row
invariant-loop-row l = l.children ++ children_with l.reader l.paths l.row-iterator.rest.items ≡ children_with l.reader l.paths l.fn.rows.items
