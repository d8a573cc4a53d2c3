use Rattle.std.proofs.Common.{◌∷◌, sym, ap, ◌∙◌}
use Rattle.std.specs.Prelude.{◌||◌, bytes_eq}
use Rattle.indexmap.specs.IndexSet.{contains}
use Rattle.save_chunks.proofs.Twice.{again_found, again_next, again_none}
use Rattle.save_chunks.proofs.doubles.first_double_id.Goals as goal
use Rattle.save_chunks.proofs.doubles.first_double_id.Goals.{in-Some+else-contains+in_ok-add_id, in_default}

pub returns-then-contains : goal.returns-then-contains
returns-then-contains c =
    again_found c.args.rows.now c.loop-row.row-index c.row-item.result c.loop-row-test.true c.row-item.is c.loop-row.invariant.0 c.in-Some.id _ c.in-Some.is
    (sym (c.loop-row.invariant.1 c.in-Some.id) ∙ ap (λ b. contains bytes_eq c.loop-row.seen b) (sym c.bytes.ensures.value) ∙ sym c.contains.ensures ∙ c.if-contains.true) c.loop-row.invariant.2

pub loop-row-preserved : goal.loop-row-preserved
loop-row-preserved c =
    elim c.match-row.branch [
      | in-Some+else-contains+in_ok-add_id w ↦ (
        w.in-Some.id ∷ c.loop-row.invariant.0,
        (λ x. ap (λ s. contains bytes_eq s x) w.seen-is ∙ w.in_ok-add_id.ensures x ∙ ap (λ b. bytes_eq w.in-Some.id x || b) (c.loop-row.invariant.1 x)),
        again_next c.args.rows.now c.loop-row.row-index c.row-item.result c.loop-row-test.true c.row-item.is c.loop-row.invariant.0 w.in-Some.id _ w.in-Some.is
            (sym (c.loop-row.invariant.1 w.in-Some.id) ∙ ap (λ b. contains bytes_eq c.loop-row.seen b) (sym w.bytes.ensures.value) ∙ sym w.contains.ensures ∙ w.if-contains.false) c.loop-row.invariant.2,
      )
      | in_default w ↦ (
        c.loop-row.invariant.0,
        (λ x. ap (λ s. contains bytes_eq s x) w.seen-is ∙ c.loop-row.invariant.1 x),
        again_none c.args.rows.now c.loop-row.row-index c.row-item.result c.loop-row-test.true c.row-item.is c.loop-row.invariant.0 _ w.in_default.is c.loop-row.invariant.2,
      )
    ]
