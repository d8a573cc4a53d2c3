use Rattle.std.proofs.Common.{rules, ◌≡◌, to_z, of_z, w32, Some, subst, sym}
use Rattle.apex_num.specs.declared.cell.Cell.TheVariants.{Day}
use Rattle.row_cells.specs.Cells.{Only, IsDayCell}
use Rattle.row_cells.proofs.Steps.{day_some, day_none}
use Rattle.row_cells.proofs.cells.day_cell.Goals as goal

pub returns-in-Some : goal.returns-in-Some
returns-in-Some c =
    let n = c.in-Some.day in
    let range : to_z w32 (of_z w32 n) ≡ n = search rules in
    subst (λ m. Only (IsDayCell c.args.value.now) (Some (Day m))) (sym range)
    (day_some c.args.value.now c.in-Text.text c.bytes.result.now c.in-Text.is c.bytes.ensures.value n (sym c.in-Some.ensures))

pub returns-in-None : goal.returns-in-None
returns-in-None c = day_none c.args.value.now c.in-Text.text c.bytes.result.now c.in-Text.is c.bytes.ensures.value (sym c.in-None.ensures)
