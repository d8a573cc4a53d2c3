use Rattle.std.proofs.Common.{◌∙◌}
use Rattle.row_conditions.proofs.Folds.{is_compare}
use Rattle.row_conditions.proofs.conds.prepare_compare.Goals as goal

pub returns : goal.returns
returns c = λ value. is_compare value c.args.binds.now _ c.args.path.now c.args.op _ c.args.term.now c.in_ok-path.ensures (c.in_ok-value.ensures ∙ c.value_at.ensures)
