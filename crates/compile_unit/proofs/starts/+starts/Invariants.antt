use Rattle.std.proofs.Common.{◌+◌, ◌*◌}
use Rattle.compile_unit.proofs.starts.+starts.Given as goal

abbrev pub decreases-starts_within : goal.decreases-starts_within
decreases-starts_within l = 3 * l.most

abbrev pub decreases-starts_by : goal.decreases-starts_by
decreases-starts_by l = 3 * l.most + 2

abbrev pub decreases-starts_behind : goal.decreases-starts_behind
decreases-starts_behind l = 3 * l.most + 1
