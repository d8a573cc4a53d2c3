use Rattle.std.proofs.Common.{◌≡◌, drop}
use Rattle.apex_types.specs.Constructors.{behind_semicolons}
use Rattle.apex_types.proofs.constructor.behind_semicolons.Given as goal

abbrev pub invariant-loop-i : goal.invariant-loop-i
invariant-loop-i l = behind_semicolons (drop l.i l.trees) ≡ behind_semicolons l.trees
