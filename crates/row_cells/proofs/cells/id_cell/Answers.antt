use Rattle.row_cells.proofs.Steps.{id_some}
use Rattle.row_cells.proofs.cells.id_cell.Goals as goal

pub returns-in-Some : goal.returns-in-Some
returns-in-Some c = id_some c.args.value.now c.in-Text.text c.bytes.result.now c.in-Text.is c.bytes.ensures.value c.in-Some.id c.in-Some.ensures.named
