use Rattle.std.proofs.Common.{◌≡◌, drop}
use Rattle.std.specs.List.{list_any}
use Rattle.method_calls.specs.MethodNamings.{has_named, namings}
use Rattle.method_calls.proofs.named.MethodNames.has_among.Given as goal

abbrev pub invariant-loop-class : goal.invariant-loop-class
invariant-loop-class l = list_any (has_named (namings l.self) l.way l.name) (drop l.class-index l.classes) ≡ list_any (has_named (namings l.self) l.way l.name) l.classes
