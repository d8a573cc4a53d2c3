-- When two methods of a class have one name and equally many parameters.
use Rattle.std.specs.Prelude.{Bool}
use Rattle.class_walk.specs.declared.label.MethodLabel.{MethodLabel}
use Rattle.class_walk.specs.contracts.label.MethodLabelPartialEq.TheImpl.{ghosts}

abbrev pub label_eq : MethodLabel → MethodLabel → Bool
label_eq = ghosts.eq
