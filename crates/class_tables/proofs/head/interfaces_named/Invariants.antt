use Rattle.std.proofs.Common.{◌≡◌, ◌++◌, drop, filter_map}
use Rattle.type_names.specs.TypeTrees.{known}
use Rattle.class_tables.specs.Heads.{interface_named}
use Rattle.class_tables.proofs.head.interfaces_named.Given as goal

abbrev pub invariant-loop-word : goal.invariant-loop-word
invariant-loop-word l =
    l.all ++ filter_map (interface_named (known l.names) l.interfaces) (drop l.word-index l.words) ≡ filter_map (interface_named (known l.names) l.interfaces) l.words
