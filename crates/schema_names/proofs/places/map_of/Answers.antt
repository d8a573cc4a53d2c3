use Rattle.std.proofs.Common.{sym, ap, ◌∙◌, bytes_eq}
use Rattle.schema_names.specs.Names.{or_at}
use Rattle.schema_names.proofs.PlaceSteps.{one_place_more}
use Rattle.schema_names.proofs.places.map_of.Goals as goal

pub loop-i-preserved : goal.loop-i-preserved
loop-i-preserved c = λ n.
    c.in_ok-note.ensures n ∙ ap (λ p. or_at p (bytes_eq c.index-names-i.result n) c.loop-i.i) (c.loop-i.invariant n) ∙ sym (one_place_more c.args.names.now c.loop-i.i c.index-names-i.result c.index-names-i.result n c.loop-i-test.true c.index-names-i.is)
