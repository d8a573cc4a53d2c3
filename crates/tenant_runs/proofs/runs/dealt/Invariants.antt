use Rattle.std.proofs.Common.{◌≡◌, ◌++◌, List, []}
use Rattle.std.specs.Prelude.{replicate}
use Rattle.tenant_shards.specs.declared.finish.Finished.{Finished}
use Rattle.tenant_runs.specs.Steps.{dealt}
use Rattle.tenant_runs.proofs.runs.dealt.Given as goal

abbrev pub invariant-left : goal.invariant-left
invariant-left l =
    (goal.iterator-left).can_next l.finished-iterator × (goal.iterator-left).is_finite l.finished-iterator
    × ((front : List Finished) × (l.fn.left ≡ front ++ l.finished-iterator.rest.items) × (l.trails ≡ dealt (replicate l.fn.count []) front))
