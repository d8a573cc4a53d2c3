-- What all code of a tenant sees (docs/language.md, "Bodies").
use Rattle.std.specs.Prelude.{ℕ, Bool, true, false, List, Option, None, Some}
use Rattle.apex_schema.specs.declared.schema.Object.{Object}
use Rattle.apex_types.specs.declared.home.Home.{Home as TheHome}
use Rattle.class_tables.specs.declared.head.ClassHead.{ClassHead}
use Rattle.class_tables.specs.declared.member.ClassMembers.{ClassMembers}
use Rattle.class_tables.specs.declared.member.ResultHead.{ResultHead}
use Rattle.class_tables.specs.Tables.{all_in}
use Rattle.method_calls.specs.MethodNamings.{Namings, namings}
use Rattle.name_meanings.specs.Settings.{Around}
use Rattle.statement_walk.specs.Scenes.{Scene}
use Rattle.type_names.specs.TypeTrees.{Known, known}

pub record Home : Type 0 where
  pub names : Known
  pub heads : List ClassHead
  pub members : List ClassMembers
  pub objects : List Object
  pub methods : Namings

abbrev pub home : TheHome → Home
home h = record {
  names = known h.names;
  heads = h.lines.now.heads;
  members = all_in h.members.now;
  objects = h.words.now.schema.now.objects;
  methods = namings h.methods.now;
}

abbrev pub setting : Home → Option ℕ → Bool → Bool → Around
setting h class is_static in_constructor = record {
  names = h.names;
  heads = h.heads;
  members = h.members;
  objects = h.objects;
  class = class;
  is_static = is_static;
  in_constructor = in_constructor;
  trigger = None;
}

-- code of a trigger has no `this`
abbrev pub trigger : Home → ℕ → Around
trigger h object = record {
  names = h.names;
  heads = h.heads;
  members = h.members;
  objects = h.objects;
  class = None;
  is_static = true;
  in_constructor = false;
  trigger = Some object;
}

-- a body there, and what it answers
abbrev pub scene_in : Home → Around → ResultHead → Scene
scene_in h a due = record { around = a; methods = h.methods; due = due }
