use Rattle.row_meaning.specs.Conds.{own_value}
use Rattle.row_conditions.proofs.Folds.{ok_same}
use Rattle.row_conditions.proofs.conds.holds.Goals as goal

pub returns : goal.returns
returns c = ok_same _ _ _ (c.in_ok-prepare.ensures (own_value c.args.row.now)) c.holds.ensures
