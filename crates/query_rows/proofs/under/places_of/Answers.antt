use Rattle.query_rows.proofs.FamilyPlaces.{one_more}
use Rattle.query_rows.proofs.under.places_of.Goals as goal

pub loop-i-preserved : goal.loop-i-preserved
loop-i-preserved c = λ id.
    one_more c.args.lookup c.args.rows.now c.loop-i.i c.index-rows-i.result c.loop-i-test.true c.index-rows-i.is _ _ id (c.in_ok-add_row.ensures id) (c.loop-i.invariant id)
