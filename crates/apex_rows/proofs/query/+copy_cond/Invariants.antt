use Rattle.std.proofs.Common.{◌≡◌, take}
use Rattle.apex_rows.proofs.query.+copy_cond.Given as goal

abbrev pub invariant-copy_each-loop-cond : goal.invariant-copy_each-loop-cond
invariant-copy_each-loop-cond l = l.done ≡ take l.cond-index l.list
