use Rattle.std.proofs.Common.{◌≡◌, drop}
use Rattle.class_tables.specs.Modifiers.{has_word}
use Rattle.class_tables.proofs.member_modifiers.has_word.Given as goal

abbrev pub invariant-loop-modifier : goal.invariant-loop-modifier
invariant-loop-modifier l = has_word l.word (drop l.modifier-index l.modifiers) ≡ has_word l.word l.modifiers
