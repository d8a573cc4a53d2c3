use Rattle.std.proofs.Common.{arith, [], ◌∷◌}
use Rattle.apex_rows.specs.declared.row.Row.{Row}
use Rattle.save_statements.specs.Records.{named_by}
use Rattle.delete_cascades.specs.Layers.{has_place, places_in}
use Rattle.delete_cascades.proofs.Places.{all_there, next_place}
use Rattle.delete_cascades.proofs.level.places_of.Goals as goal

pub loop-i-preserved : goal.loop-i-preserved
loop-i-preserved c = λ id n row e.
    next_place c.args.rows.now c.loop-i.i n c.index-rows-i.result row (λ (r : Row). named_by c.args.namings.now (id ∷ []) r) (has_place (places_in c.loop-i.places id) n) (has_place (places_in c.add_row.new.places id) n)
    c.loop-i-test.true c.index-rows-i.is e (c.loop-i.invariant id n row e) (c.in_ok-add_row.ensures id n)

pub returns : goal.returns
returns c = λ id n row e. all_there c.args.rows.now n c.loop-i.i row (has_place (places_in c.loop-i.places id) n) (named_by c.args.namings.now (id ∷ []) row) e (omega arith) (c.loop-i.invariant id n row e)
