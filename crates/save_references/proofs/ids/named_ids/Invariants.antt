use Rattle.std.proofs.Common.{◌≡◌, [], drop}
use Rattle.save_meaning.specs.Drafts.{with_ids}
use Rattle.save_statements.specs.Records.{going}
use Rattle.save_statements.specs.Checks.{named_in}
use Rattle.save_references.proofs.ids.named_ids.Given as goal

abbrev pub invariant-loop-record : goal.invariant-loop-record
invariant-loop-record l = with_ids (named_in l.field (going (drop l.record-index l.records))) l.ids ≡ with_ids (named_in l.field (going l.records)) []
