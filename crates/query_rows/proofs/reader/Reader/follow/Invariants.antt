use Rattle.std.proofs.Common.{◌≡◌, drop}
use Rattle.row_meaning.specs.Queries.{follow}
use Rattle.query_rows.proofs.reader.Reader.follow.Given as goal

abbrev pub invariant-loop-field : goal.invariant-loop-field
invariant-loop-field l = follow l.self.schema l.self.known (drop l.field-index l.parents) l.at ≡ follow l.self.schema l.self.known l.parents l.row
