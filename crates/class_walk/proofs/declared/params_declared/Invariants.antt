use Rattle.std.proofs.Common.{◌≡◌, drop, []}
use Rattle.type_names.specs.TypeTrees.{known}
use Rattle.class_walk.specs.Declarations.{params_walk}
use Rattle.class_walk.proofs.declared.params_declared.Given as goal

abbrev pub invariant-loop-param : goal.invariant-loop-param
invariant-loop-param l = params_walk (known l.names) l.scope (drop l.param-index l.params) ≡ params_walk (known l.names) [] l.params
