use Rattle.std.proofs.Common.{◌∙◌}
use Rattle.heap_units.proofs.Longer.{pairs_added}
use Rattle.heap_units.proofs.growth.new_pairs.Goals as goal

pub returns : goal.returns
returns c = pairs_added c.new_entries.result c.args.entries.now c.args.more.now c.as_slice.result.now (c.as_slice.ensures ∙ c.in_ok-keys.ensures) c.new_entries.ensures
