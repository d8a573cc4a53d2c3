use Rattle.std.proofs.Common.{◌≡◌, drop}
use Rattle.typed_calls.specs.Arguments.{param_walks}
use Rattle.type_names.specs.Walks.{all}
use Rattle.type_names.proofs.WalkSteps.{behind}
use Rattle.typed_calls.proofs.arguments.param_hows.Given as goal

abbrev pub invariant-loop-i : goal.invariant-loop-i
invariant-loop-i l =
    all (param_walks l.lines.heads l.at l.params l.args) ≡ behind l.hows (all (param_walks l.lines.heads l.at (drop l.i l.params) (drop l.i l.args)))
