use Rattle.std.proofs.Common.{◌≡◌, drop}
use Rattle.std.specs.List.{list_all, list_any}
use Rattle.row_meaning.specs.Conds.{own_value}
use Rattle.row_conditions.specs.Prepared.{prepared_holds}
use Rattle.row_conditions.proofs.prepared.+conditions.Given as goal

abbrev pub invariant-all_hold-loop-cond : goal.invariant-all_hold-loop-cond
invariant-all_hold-loop-cond l = list_all (prepared_holds (own_value l.row)) (drop l.cond-index l.conds) ≡ list_all (prepared_holds (own_value l.row)) l.conds

abbrev pub invariant-one_holds-loop-cond : goal.invariant-one_holds-loop-cond
invariant-one_holds-loop-cond l = list_any (prepared_holds (own_value l.row)) (drop l.cond-index l.conds) ≡ list_any (prepared_holds (own_value l.row)) l.conds
