use Rattle.std.proofs.Common.{◌≡◌, drop}
use Rattle.std.specs.Prelude.{eqb}
use Rattle.std.specs.List.{list_any}
use Rattle.program_things.proofs.kinds.is_among.Given as goal

abbrev pub invariant-loop-other : goal.invariant-loop-other
invariant-loop-other l = list_any (eqb l.class) (drop l.other-index l.classes) ≡ list_any (eqb l.class) l.classes
