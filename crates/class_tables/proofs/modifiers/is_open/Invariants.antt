use Rattle.std.proofs.Common.{◌≡◌, drop}
use Rattle.class_tables.specs.Heads.{any_word, is_open_word}
use Rattle.class_tables.proofs.modifiers.is_open.Given as goal

abbrev pub invariant-loop-modifier : goal.invariant-loop-modifier
invariant-loop-modifier l = any_word is_open_word (drop l.modifier-index l.modifiers) ≡ any_word is_open_word l.modifiers
