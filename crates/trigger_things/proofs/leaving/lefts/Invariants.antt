use Rattle.std.proofs.Common.{◌≡◌, ◌++◌, ◌-◌}
use Rattle.trigger_things.specs.Lefts.{lefts}
use Rattle.trigger_things.proofs.leaving.lefts.Given as goal

abbrev pub invariant-all : goal.invariant-all
invariant-all l = l.left ++ lefts (l.count - l.i) l.place l.heap ≡ lefts l.count l.first l.heap
