use Rattle.std.proofs.Common.{◌≡◌}
use Rattle.type_names.specs.TypeTrees.{listed}
use Rattle.type_names.proofs.names.listed.Given as goal

abbrev pub invariant-loop-level : goal.invariant-loop-level
invariant-loop-level l = l.kind ≡ listed l._level l.fn.kind
