use Rattle.std.proofs.Common.{◌≡◌, ℕ, List, drop, take, bytes_eq}
use Rattle.indexmap.specs.IndexSet.{contains}
use Rattle.schema_names.specs.Names.{has}
use Rattle.schema_plans.specs.Plans as spec
use Rattle.schema_build.proofs.objects.objects_fault.Given as goal

abbrev pub invariant-objects : goal.invariant-objects
invariant-objects l =
    ((n : List ℕ) → contains bytes_eq l.seen n ≡ has (take l.i (spec.prefixes l.plan)) n)
    × (spec.first_of (spec.object_fault l.plan) 0 l.plan.objects ≡ spec.first_of (spec.object_fault l.plan) l.i (drop l.i l.plan.objects))
