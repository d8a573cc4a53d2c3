use Rattle.std.proofs.Common.{◌≡◌, drop}
use Rattle.std.specs.List.{list_all}
use Rattle.bundle_read.specs.Words as words
use Rattle.bundle_read.proofs.bundle.are_name_bytes.Given as goal

abbrev pub invariant-loop-b : goal.invariant-loop-b
invariant-loop-b l = list_all words.is_name_byte (drop l.b-index l.name) ≡ list_all words.is_name_byte l.name
