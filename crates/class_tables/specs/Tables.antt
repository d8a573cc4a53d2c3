-- What contracts see of tables of members.
use Rattle.std.specs.Prelude.{List, map}
use Rattle.class_tables.specs.declared.member.ClassMembers.{ClassMembers}
use Rattle.class_tables.specs.declared.table.MemberTable.{MemberTable}
use Rattle.class_tables.specs.declared.tables.MemberTables.{MemberTables}

abbrev pub members_of : MemberTable → ClassMembers
members_of t = t.members

abbrev pub all_in : MemberTables → List ClassMembers
all_in t = map members_of t.tables
