use Rattle.std.proofs.Common.{◌≡◌, ◌++◌}
use Rattle.std.specs.Prelude.{filter}
use Rattle.save_statements.specs.Records.{names_one}
use Rattle.query_finding.proofs.keeps.naming.Given as goal

abbrev pub invariant-loop-row : goal.invariant-loop-row
invariant-loop-row l = l.kept.items ++ filter (names_one l.field l.ids) l.row-iterator.rest.items ≡ filter (names_one l.field l.ids) l.fn.rows
