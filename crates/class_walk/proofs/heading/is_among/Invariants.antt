use Rattle.std.proofs.Common.{◌≡◌, drop}
use Rattle.schema_names.specs.Names.{has}
use Rattle.class_walk.specs.Headers.{words_in}
use Rattle.class_walk.proofs.heading.is_among.Given as goal

abbrev pub invariant-loop-one : goal.invariant-loop-one
invariant-loop-one l = has (words_in (drop l.one-index l.words)) l.word ≡ has (words_in l.words) l.word
