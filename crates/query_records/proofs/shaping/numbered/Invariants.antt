use Rattle.std.proofs.Common.{◌≡◌, ◌++◌, ◌+◌, drop}
use Rattle.query_records.specs.Shapes.{numbered}
use Rattle.query_records.proofs.shaping.numbered.Given as goal

abbrev pub invariant-loop-i : goal.invariant-loop-i
invariant-loop-i l = l.all ++ numbered (l.from + l.i) (drop l.i l.paths) ≡ numbered l.from l.paths
