use Rattle.row_conditions.specs.Keys.{key_of}
use Rattle.row_conditions.proofs.Keys.{key_more}
use Rattle.row_conditions.proofs.cell_set.CellSet.add.Goals as goal

pub returns : goal.returns
returns c = λ q. key_more _ _ _ q c.args.cell.now c.in_ok-key.key c.self.view_is c.in_ok-key.ensures (c.in_ok-put.ensures (key_of q))
