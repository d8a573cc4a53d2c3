use Rattle.std.proofs.Common.{sym, ap, ◌∙◌}
use Rattle.row_meaning.specs.Conds.{is_local}
use Rattle.row_conditions.proofs.Folds.{local_All, local_Any}
use Rattle.row_conditions.proofs.local.+locals.Goals as goal

pub is_local-returns-in-All : goal.is_local-returns-in-All
is_local-returns-in-All t c = c.all_local.ensures ∙ sym (local_All c.in-All.conds) ∙ ap is_local (sym c.in-All.is)

pub is_local-returns-in-Any : goal.is_local-returns-in-Any
is_local-returns-in-Any t c = c.all_local-in-Any.ensures ∙ sym (local_Any c.in-Any.conds) ∙ ap is_local (sym c.in-Any.is)
