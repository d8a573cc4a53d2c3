use Rattle.std.proofs.Common.{rules, ◌≡◌, to_z, of_z, w64, Some, subst, sym}
use Rattle.apex_num.specs.declared.cell.Cell.TheVariants.{Moment}
use Rattle.row_cells.specs.Cells.{Only, IsMomentCell}
use Rattle.row_cells.proofs.Steps.{moment_some, moment_none}
use Rattle.row_cells.proofs.cells.moment_cell.Goals as goal

pub returns-in-Some : goal.returns-in-Some
returns-in-Some c =
    let n = c.in-Some.moment in
    let range : to_z w64 (of_z w64 n) ≡ n = search rules in
    subst (λ m. Only (IsMomentCell c.args.value.now) (Some (Moment m))) (sym range)
    (moment_some c.args.value.now c.in-Text.text c.bytes.result.now c.in-Text.is c.bytes.ensures.value n (sym c.in-Some.ensures))

pub returns-in-None : goal.returns-in-None
returns-in-None c = moment_none c.args.value.now c.in-Text.text c.bytes.result.now c.in-Text.is c.bytes.ensures.value (sym c.in-None.ensures)
