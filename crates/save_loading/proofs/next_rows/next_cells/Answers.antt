use Rattle.std.proofs.Common.{ap, ◌∙◌, arith}
use Rattle.std.specs.Prelude.{slice_get}
use Rattle.std.specs.Option.{option_copied}
use Rattle.save_loading.specs.Steps.{next_at}
use Rattle.save_loading.proofs.Placing.{lent}
use Rattle.save_loading.proofs.Nexts.{cells_more, cells_all}
use Rattle.save_loading.proofs.next_rows.next_cells.Goals as goal

pub loop-i-preserved : goal.loop-i-preserved
loop-i-preserved c =
    cells_more c.args.by c.loop-i.i c.args.fields.now c.args.old.now c.args.known.now c.index-old-i.result c.in_ok-next_cell.field-0 c.loop-i.cells c.push.new.self _ c.loop-i-test.true c.index-old-i.is
    (c.in_ok-next_cell.ensures
    ∙ ap (λ o. next_at c.args.by c.loop-i.i o c.index-old-i.result (option_copied c.get-in-loop-i.result)) (lent c.args.fields.now c.loop-i.i c.get.result c.get.ensures.lookup)
    ∙ ap (λ o. next_at c.args.by c.loop-i.i (slice_get c.args.fields.now c.loop-i.i) c.index-old-i.result o) (lent c.args.known.now c.loop-i.i c.get-in-loop-i.result c.get-in-loop-i.ensures.lookup))
    c.in_ok-push.ensures.ok c.loop-i.invariant

pub returns : goal.returns
returns c = cells_all c.args.by c.loop-i.i c.args.fields.now c.args.old.now c.args.known.now c.loop-i.cells _ (omega arith) c.loop-i.invariant
