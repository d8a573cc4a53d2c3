use Rattle.std.proofs.Common.{◌≡◌, ◌++◌}
use Rattle.save_chunks.specs.Parts.{with_id, without_id}
use Rattle.save_chunks.proofs.cuts.parted.Given as goal

abbrev pub invariant-loop-one : goal.invariant-loop-one
invariant-loop-one l =
    (l.fresh ++ without_id l.one-iterator.rest.items ≡ without_id l.fn.rows)
    × (l.others ++ with_id l.one-iterator.rest.items ≡ with_id l.fn.rows)
