use Rattle.std.proofs.Common.{◌≡◌, ◌++◌, drop}
use Rattle.query_records.specs.Shapes.{longer}
use Rattle.query_records.proofs.shaping.longer.Given as goal

abbrev pub invariant-loop-path : goal.invariant-loop-path
invariant-loop-path l = l.found ++ longer (drop l.path-index l.paths) ≡ longer l.paths
