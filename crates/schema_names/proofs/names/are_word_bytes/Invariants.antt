use Rattle.std.proofs.Common.{◌≡◌, drop}
use Rattle.std.specs.List.{list_all}
use Rattle.schema_names.specs.Names as spec
use Rattle.schema_names.proofs.names.are_word_bytes.Given as goal

abbrev pub invariant-loop-b : goal.invariant-loop-b
invariant-loop-b l = list_all spec.is_word_byte (drop l.b-index l.name) ≡ list_all spec.is_word_byte l.name
