use Rattle.std.proofs.Common.{◌≡◌, drop, None}
use Rattle.class_tables.specs.Heads.{sharing_from}
use Rattle.class_tables.proofs.modifiers.sharing.Given as goal

abbrev pub invariant-loop-modifier : goal.invariant-loop-modifier
invariant-loop-modifier l = sharing_from l.mode (drop l.modifier-index l.modifiers) ≡ sharing_from None l.modifiers
