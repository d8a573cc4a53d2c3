use Rattle.std.proofs.Common.{◌≡◌, ◌++◌, map}
use Rattle.std.specs.Prelude.{bytes_eq}
use Rattle.indexmap.specs.IndexSet.{contains}
use Rattle.delete_cascades.specs.Held.{settled_record}
use Rattle.delete_cascades.proofs.records.settle_all.Given as goal

abbrev pub invariant-loop-one : goal.invariant-loop-one
invariant-loop-one l =
    l.all ++ map (settled_record l.levels (contains bytes_eq l.held)) l.one-iterator.rest.items ≡ map (settled_record l.levels (contains bytes_eq l.held)) l.fn.records
