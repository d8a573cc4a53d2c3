use Rattle.std.proofs.Common.{◌+◌, ◌*◌}
use Rattle.apex_parse_stmt.proofs.read.+stmt.Given as goal

abbrev pub decreases-deeper_stmt : goal.decreases-deeper_stmt
decreases-deeper_stmt l = 3 * l.room

abbrev pub decreases-stmt_within-inner : goal.decreases-stmt_within-inner
decreases-stmt_within-inner l = 3 * l.room + 1

abbrev pub decreases-stmt_within : goal.decreases-stmt_within
decreases-stmt_within l = 3 * l.room + 2
