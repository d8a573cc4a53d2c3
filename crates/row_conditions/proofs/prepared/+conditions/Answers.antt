use Rattle.std.proofs.Common.{sym, ap, ◌∙◌}
use Rattle.row_meaning.specs.Conds.{own_value}
use Rattle.row_conditions.specs.Prepared.{prepared_holds}
use Rattle.row_conditions.proofs.Folds.{all_prepared, any_prepared, ok_same}
use Rattle.row_conditions.proofs.prepared.+conditions.Goals as goal

pub PreparedCond::holds-returns-in-All : goal.PreparedCond::holds-returns-in-All
PreparedCond::holds-returns-in-All t c =
    let value = own_value c.args.row.now in
    ok_same _ _ _ (sym (all_prepared value c.in-All.conds) ∙ ap (prepared_holds value) (sym c.in-All.is)) c.all_hold.ensures

pub PreparedCond::holds-returns-in-Any : goal.PreparedCond::holds-returns-in-Any
PreparedCond::holds-returns-in-Any t c =
    let value = own_value c.args.row.now in
    ok_same _ _ _ (sym (any_prepared value c.in-Any.conds) ∙ ap (prepared_holds value) (sym c.in-Any.is)) c.one_holds.ensures
