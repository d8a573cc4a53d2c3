use Rattle.std.proofs.Common.{◌≡◌, drop, bytes_eq}
use Rattle.std.specs.List.{list_any}
use Rattle.bundle_read.proofs.lists.is_among.Given as goal

abbrev pub invariant-loop-one : goal.invariant-loop-one
invariant-loop-one l = list_any (λ w. bytes_eq w.now l.key) (drop l.one-index l.keys) ≡ list_any (λ w. bytes_eq w.now l.key) l.keys
