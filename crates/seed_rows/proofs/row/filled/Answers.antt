use Rattle.std.proofs.Common.{◌++◌, ◌∷◌, [], ◌∙◌, ap₂, sym}
use Rattle.seed_rows.specs.Seeds.{or_default}
use Rattle.seed_rows.proofs.RowSteps.{numbered_at}
use Rattle.seed_rows.proofs.row.filled.Goals as goal

pub cells-preserved : goal.cells-preserved
cells-preserved c =
    c.in_ok-push.ensures.ok ∙ ap₂ (λ l x. l ++ x ∷ []) c.cells.invariant c.in_ok-or_default.ensures
    ∙ sym (numbered_at or_default c.args.known.now c.cells.n c.index-known-n.result c.cells-test.true c.index-known-n.is)
