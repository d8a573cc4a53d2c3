use Rattle.std.proofs.Common.{rules, ◌≡◌, map, Some, MatchResult}
use Rattle.row_cells.specs.Rows.{field_at, IsOnlyRow, NoRow}
use Rattle.row_cells.proofs.RowSteps.{row_fault}
use Rattle.row_cells.proofs.rows.row_of.Goals as goal

pub returns : goal.returns
returns c =
    let fields = c.args.fields.now in
    let entries = c.args.entries.now in
    let all : map (field_at fields) entries ≡ map Some c.in_ok-numbers.numbers = search rules in
    let told : MatchResult c.cells.result (λ cells. IsOnlyRow fields entries cells.items) (NoRow fields entries) = search rules in
    row_fault fields (λ cells. IsOnlyRow fields entries cells.items) entries c.in_ok-numbers.numbers all c.cells.result told
