use Rattle.std.proofs.Common.{◌≡◌, ◌++◌, drop}
use Rattle.type_names.specs.TypeTrees.{known}
use Rattle.class_tables.specs.Members.{fields_of}
use Rattle.class_tables.proofs.member.fields_of.Given as goal

abbrev pub invariant-loop-member : goal.invariant-loop-member
invariant-loop-member l = l.all ++ fields_of (known l.names) (drop l.member-index l.members) ≡ fields_of (known l.names) l.members
