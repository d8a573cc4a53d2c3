use Rattle.std.proofs.Common.{◌≡◌, drop}
use Rattle.query_rows.specs.Orders.{fits}
use Rattle.query_rows.proofs.order.fits.Given as goal

abbrev pub invariant-loop-cell : goal.invariant-loop-cell
invariant-loop-cell l = fits l.left (drop l.cell-index l.cells) ≡ fits l.kinds l.cells
