use Rattle.std.proofs.Common.{◌<◌, length, arith}
use Rattle.apex_text.proofs.Places.{place_first, place_feed, place_more, placed}
use Rattle.apex_text.proofs.place.line_of.Goals as goal
use Rattle.apex_text.proofs.place.line_of.Goals.{then-text-i-eq10, else-text-i-eq10}

pub loop-i-init : goal.loop-i-init
loop-i-init c = record { place = place_first c.args.text.now; line = omega arith; column = omega arith }

pub loop-i-preserved : goal.loop-i-preserved
loop-i-preserved c =
    let lt : c.loop-i.i < length c.args.text.now = omega arith in
    elim c.if-text-i-eq10.branch [
      | then-text-i-eq10 w ↦ record {
        place = placed _ _ _ _ _ _ w.line-is w.column-is (place_feed c.args.text.now c.loop-i.i c.loop-i.line c.loop-i.column lt w.if-text-i-eq10.true c.loop-i.invariant.place);
        line = omega arith;
        column = omega arith;
      }
      | else-text-i-eq10 w ↦ record {
        place = placed _ _ _ _ _ _ w.line-is w.column-is (place_more c.args.text.now c.loop-i.i c.loop-i.line c.loop-i.column lt w.if-text-i-eq10.false c.loop-i.invariant.place);
        line = omega arith;
        column = omega arith;
      }
    ]
