-- Where an expression stands, its locals apart (docs/language.md, "Names in code").
use Rattle.std.specs.Prelude.{ℕ, Bool, List, Option}
use Rattle.apex_schema.specs.declared.schema.Object.{Object}
use Rattle.class_tables.specs.declared.head.ClassHead.{ClassHead}
use Rattle.class_tables.specs.declared.member.ClassMembers.{ClassMembers}
use Rattle.class_tables.specs.Tables.{all_in}
use Rattle.name_meanings.specs.declared.setting.Setting.{Setting}
use Rattle.type_names.specs.TypeTrees.{Known, known}

pub record Around : Type 0 where
  pub names : Known
  pub heads : List ClassHead
  pub members : List ClassMembers
  pub objects : List Object
  pub class : Option ℕ
  pub is_static : Bool
  pub in_constructor : Bool
  pub trigger : Option ℕ

abbrev pub around : Setting → Around
around s = record {
  names = known s.names;
  heads = s.lines.now.heads;
  members = all_in s.members.now;
  objects = s.words.now.schema.now.objects;
  class = s.class;
  is_static = s.is_static;
  in_constructor = s.in_constructor;
  trigger = s.trigger;
}
