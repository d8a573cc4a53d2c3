use Rattle.std.proofs.Common.{◌≡◌, ◌++◌, drop}
use Rattle.type_names.specs.TypeTrees.{known}
use Rattle.class_tables.specs.Members.{methods_of}
use Rattle.class_tables.proofs.member.methods_of.Given as goal

abbrev pub invariant-loop-member : goal.invariant-loop-member
invariant-loop-member l = l.all ++ methods_of (known l.names) (drop l.member-index l.members) ≡ methods_of (known l.names) l.members
