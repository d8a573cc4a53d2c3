use Rattle.std.proofs.Common.{◌∙◌, take}
use Rattle.std.specs.Prelude.{◌||◌}
use Rattle.delete_cascades.specs.Layers.{has_place}
use Rattle.delete_cascades.proofs.Marks.{place_next}
use Rattle.delete_cascades.proofs.level.mark_all.Goals as goal

pub loop-i-preserved : goal.loop-i-preserved
loop-i-preserved c = λ test h.
    c.in_ok-mark.ensures (λ n. test n || has_place (take c.loop-i.i c.args.places.now) n) (c.loop-i.invariant test h) ∙ place_next c.args.rows.now test c.args.places.now c.loop-i.i c.loop-i-test.true
