use Rattle.std.proofs.Common.{◌≡◌, ◌++◌, drop}
use Rattle.type_names.specs.TypeTrees.{known}
use Rattle.class_tables.specs.Members.{constructors_of}
use Rattle.class_tables.proofs.member.constructors_of.Given as goal

abbrev pub invariant-loop-member : goal.invariant-loop-member
invariant-loop-member l = l.all ++ constructors_of (known l.names) (drop l.member-index l.members) ≡ constructors_of (known l.names) l.members
