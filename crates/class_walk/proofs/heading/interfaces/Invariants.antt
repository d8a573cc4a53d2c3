use Rattle.std.proofs.Common.{◌≡◌, drop}
use Rattle.type_names.specs.TypeTrees.{known}
use Rattle.class_walk.specs.Headers.{interfaces_walk}
use Rattle.class_walk.proofs.heading.interfaces.Given as goal

abbrev pub invariant-loop-word : goal.invariant-loop-word
invariant-loop-word l = interfaces_walk (known l.names) l.lines.heads (drop l.word-index l.words) ≡ interfaces_walk (known l.names) l.lines.heads l.words
