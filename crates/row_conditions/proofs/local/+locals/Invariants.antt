use Rattle.std.proofs.Common.{◌≡◌, drop}
use Rattle.std.specs.List.{list_all}
use Rattle.row_meaning.specs.Conds.{is_local}
use Rattle.row_conditions.proofs.local.+locals.Given as goal

abbrev pub invariant-all_local-loop-cond : goal.invariant-all_local-loop-cond
invariant-all_local-loop-cond l = list_all is_local (drop l.cond-index l.conds) ≡ list_all is_local l.conds
