use Rattle.program_things.proofs.Called.{renamed}
use Rattle.program_things.proofs.CellSteps.{fetch_is}
use Rattle.program_things.proofs.cells.fetch_cell.Goals as goal

pub returns-in-Some : goal.returns-in-Some
returns-in-Some c =
    renamed c.fetch_on.result _ _ c.fetch_on.new.c (fetch_is c.args.field c.args.goes_on c.args.c.now c.in-Some.on c.args.schema.now c.pop.new.self c.in-Some.ensures) c.fetch_on.ensures
