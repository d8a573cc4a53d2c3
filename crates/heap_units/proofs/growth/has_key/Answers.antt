use Rattle.std.proofs.Common.{is_some, sym, ap, ◌∙◌}
use Rattle.heap_units.proofs.Longer.{has_lookup, some_copied}
use Rattle.heap_units.proofs.growth.has_key.Goals as goal

pub returns : goal.returns
returns c = c.is_some.ensures ∙ sym (some_copied c.get.result) ∙ ap is_some c.get.ensures ∙ has_lookup c.args.key.now c.args.entries.now
