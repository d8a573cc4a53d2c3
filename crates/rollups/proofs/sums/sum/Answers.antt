use Rattle.std.proofs.Common.{◌+ℤ◌, ap, ◌∙◌}
use Rattle.std.proofs.lemmas.Int.{to_z-of_z}
use Rattle.std.specs.Int.{w128}
use Rattle.std.specs.Prelude.{◌/◌, length, take}
use Rattle.row_meaning.specs.Rollups.{numbers, total}
use Rattle.rollups.proofs.Totals.{halves, summed}
use Rattle.rollups.proofs.sums.sum.Goals as goal

pub returns : goal.returns
returns c =
    let f = c.args.field in
    let front = to_z-of_z w128 c.part.result (record { sfits = c.part.type_inv }) in
    let back = to_z-of_z w128 c.part-2.result (record { sfits = c.part-2.type_inv }) in
    summed c.checked_add.result (c.part.result +ℤ c.part-2.result) (total (numbers f c.args.rows.now)) (
    ap (λ x. x +ℤ c.part-2.result) (c.part.ensures ∙ ap (λ rows. total (numbers f rows)) c.split_at.ensures.front)
    ∙ ap (λ x. total (numbers f (take (length c.args.rows.now / 2) c.args.rows.now)) +ℤ x) (c.part-2.ensures ∙ ap (λ rows. total (numbers f rows)) c.split_at.ensures.back)
    ∙ halves f (length c.args.rows.now / 2) c.args.rows.now
    ) (rw (front, back) at c.checked_add.ensures)
