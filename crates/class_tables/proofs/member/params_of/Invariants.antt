use Rattle.std.proofs.Common.{◌≡◌, take, map}
use Rattle.type_names.specs.TypeTrees.{known}
use Rattle.class_tables.specs.Members.{param_of}
use Rattle.class_tables.proofs.member.params_of.Given as goal

abbrev pub invariant-loop-param : goal.invariant-loop-param
invariant-loop-param l = l.all ≡ map (param_of (known l.names)) (take l.param-index l.params)
