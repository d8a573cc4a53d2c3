use Rattle.std.proofs.Common.{◌≡◌, drop}
use Rattle.apex_meaning.specs.Records.{parent_among}
use Rattle.record_reads.proofs.relations.parent_among.Given as goal

abbrev pub invariant-loop-parent : goal.invariant-loop-parent
invariant-loop-parent l = parent_among l.schema (drop l.parent-index l.parents) l.field l.known ≡ parent_among l.schema l.parents l.field l.known
