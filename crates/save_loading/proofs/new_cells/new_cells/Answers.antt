use Rattle.std.proofs.Common.{ap, ◌∙◌}
use Rattle.save_meaning.specs.Drafts.{new_cell}
use Rattle.save_loading.proofs.Cells.{cells_more}
use Rattle.save_loading.proofs.new_cells.new_cells.Goals as goal

pub loop-i-preserved : goal.loop-i-preserved
loop-i-preserved c =
    cells_more c.args.user c.loop-i.i c.args.fields.now c.args.known.now c.index-fields-i.result _ _ _ _ c.loop-i-test.true c.index-fields-i.is c.loop-i.invariant
    (c.new_cell.ensures ∙ ap (λ k. new_cell c.args.user c.loop-i.i c.index-fields-i.result k) c.in_ok-known.ensures)
    c.in_ok-push.ensures.ok
