use Rattle.std.proofs.Common.{◌≡◌, take}
use Rattle.apex_rows.proofs.query.+copy_query.Given as goal

abbrev pub invariant-copy_subqueries-loop-child : goal.invariant-copy_subqueries-loop-child
invariant-copy_subqueries-loop-child l = l.done ≡ take l.child-index l.list
