use Rattle.std.proofs.Common.{◌≡◌, take}
use Rattle.formula_rules.specs.Grammar.{field_names}
use Rattle.formula_rules.proofs.read.field_places.Given as goal

abbrev pub invariant-loop-field : goal.invariant-loop-field
invariant-loop-field l = l.names.items ≡ field_names (take l.field-index l.fields)
