use Rattle.std.proofs.Common.{◌≡◌, ◌++◌, drop}
use Rattle.std.specs.Prelude.{filter}
use Rattle.row_meaning.specs.Conds.{is_local}
use Rattle.row_conditions.proofs.local.locals_among.Given as goal

abbrev pub invariant-loop-cond : goal.invariant-loop-cond
invariant-loop-cond l = l.all ++ filter is_local (drop l.cond-index l.conds) ≡ filter is_local l.conds
