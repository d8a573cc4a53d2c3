use Rattle.std.proofs.Common.{◌≡◌, drop, bytes_eq}
use Rattle.std.specs.List.{list_any}
use Rattle.schema_names.proofs.names.is_among.Given as goal

abbrev pub invariant-loop-one : goal.invariant-loop-one
invariant-loop-one l = list_any (λ w. bytes_eq w.now l.word) (drop l.one-index l.words) ≡ list_any (λ w. bytes_eq w.now l.word) l.words
