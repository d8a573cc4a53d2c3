use Rattle.std.proofs.Common.{◌≡◌, drop}
use Rattle.apex_meaning.specs.Records.{children_among}
use Rattle.record_reads.proofs.relations.children_among.Given as goal

abbrev pub invariant-loop-under : goal.invariant-loop-under
invariant-loop-under l = children_among l.schema (drop l.under-index l.children) l.object l.field l.known ≡ children_among l.schema l.children l.object l.field l.known
