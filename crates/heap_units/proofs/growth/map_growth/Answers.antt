use Rattle.std.proofs.Common.{true, false, sym, ◌∙◌}
use Rattle.heap_units.proofs.Longer.{no_entry, put_growth}
use Rattle.heap_units.proofs.growth.map_growth.Goals as goal

pub returns-in_default : goal.returns-in_default
returns-in_default c = no_entry c.args.change.now c.args.entries.now c.in_default.not-Put c.in_default.not-PutAll

pub returns-then-has_key : goal.returns-then-has_key
returns-then-has_key c = put_growth c.args.change.now c.args.entries.now c.in-Put.key c.in-Put.field-1 true c.in-Put.is (sym c.has_key.ensures ∙ c.if-has_key.true)

pub returns-else-has_key : goal.returns-else-has_key
returns-else-has_key c = put_growth c.args.change.now c.args.entries.now c.in-Put.key c.in-Put.field-1 false c.in-Put.is (sym c.has_key.ensures ∙ c.if-has_key.false)
