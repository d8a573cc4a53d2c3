use Rattle.std.proofs.Common.{rules, ◌≡◌, codes, subst, sym}
use Rattle.apex_text.specs.Fold.{folded}
use Rattle.seed_rows.specs.Keys.{IsGiven}
use Rattle.seed_rows.proofs.Steps.{given}
use Rattle.seed_rows.proofs.keys.id_in.Goals as goal

pub returns-in_ok-cell_of : goal.returns-in_ok-cell_of
returns-in_ok-cell_of c =
    let e = c.args.entry.now in
    let name : folded e.name ≡ codes "id" = search rules in
    subst (λ o. IsGiven e o) (sym c.id_cell.ensures) (given e c.in_ok-cell_of.field-0 name c.in_ok-cell_of.ensures)
