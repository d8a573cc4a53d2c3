use Rattle.std.specs.Prelude.{bytes_eq}
use Rattle.std.proofs.lemmas.Result.{IfOk-weaker}
use Rattle.indexmap.specs.IndexSet.{contains}
use Rattle.delete_cascades.proofs.Settling.{all_settled}
use Rattle.delete_cascades.proofs.records.settle.Goals as goal

pub returns : goal.returns
returns c =
    IfOk-weaker c.settle_all.result _ _
    (λ out h.
    all_settled c.args.masters.now c.args.levels c.as_slice-2.result.now c.args.found.now c.args.records c.as_slice.result.now out (contains bytes_eq c.in_ok-gone.gone) (contains bytes_eq c.in_ok-held.held)
    c.in_ok-levels.levels c.as_slice-3.result.now c.as_slice.ensures c.as_slice-2.ensures c.in_ok-gone.ensures c.in_ok-held.ensures c.in_ok-levels.ensures c.as_slice-3.ensures h) c.settle_all.ensures
