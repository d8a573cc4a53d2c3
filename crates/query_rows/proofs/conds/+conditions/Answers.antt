use Rattle.std.proofs.Common.{sym, ap, ◌∙◌}
use Rattle.row_meaning.specs.Conds.{holds}
use Rattle.query_rows.specs.Read.{value_of}
use Rattle.query_rows.proofs.Folds.{all_value, any_value, ok_same}
use Rattle.query_rows.proofs.conds.+conditions.Goals as goal

pub holds-returns-in-All : goal.holds-returns-in-All
holds-returns-in-All t c =
    let value = value_of c.args.reader.now c.args.row.now in
    ok_same _ _ _ (sym (all_value c.args.binds.now value c.in-All.conds) ∙ ap (λ x. holds c.args.binds.now value x) (sym c.in-All.is)) c.all_hold.ensures

pub holds-returns-in-Any : goal.holds-returns-in-Any
holds-returns-in-Any t c =
    let value = value_of c.args.reader.now c.args.row.now in
    ok_same _ _ _ (sym (any_value c.args.binds.now value c.in-Any.conds) ∙ ap (λ x. holds c.args.binds.now value x) (sym c.in-Any.is)) c.one_holds.ensures
