use Rattle.std.proofs.Common.{◌≡◌, take, map}
use Rattle.type_names.specs.TypeTrees.{known}
use Rattle.class_tables.specs.Members.{signature_head}
use Rattle.class_tables.proofs.member.signatures_of.Given as goal

abbrev pub invariant-loop-tree : goal.invariant-loop-tree
invariant-loop-tree l = l.all ≡ map (signature_head (known l.names)) (take l.tree-index l.trees)
