use Rattle.row_conditions.proofs.Folds.{is_within}
use Rattle.row_conditions.proofs.conds.prepare_within.Goals as goal

pub returns : goal.returns
returns c = λ value. is_within value c.args.binds.now _ c.args.path.now c.args.negated c.in_ok-set.set c.args.terms.now c.in_ok-path.ensures c.in_ok-set.ensures
