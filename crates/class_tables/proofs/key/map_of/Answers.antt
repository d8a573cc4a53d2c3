use Rattle.std.proofs.Common.{sym, ap, ◌∙◌}
use Rattle.schema_names.specs.Names.{or_at}
use Rattle.class_tables.specs.Keys.{key_eq}
use Rattle.class_tables.proofs.KeySteps.{one_key_more}
use Rattle.class_tables.proofs.key.map_of.Goals as goal

pub loop-i-preserved : goal.loop-i-preserved
loop-i-preserved c = λ k.
    c.in_ok-add.ensures k ∙ ap (λ p. or_at p (key_eq c.index-keys-i.result k) c.loop-i.i) (c.loop-i.invariant k) ∙ sym (one_key_more c.args.keys.now c.loop-i.i c.index-keys-i.result c.index-keys-i.result k c.loop-i-test.true c.index-keys-i.is)
