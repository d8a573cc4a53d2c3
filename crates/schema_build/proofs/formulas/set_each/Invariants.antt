use Rattle.std.proofs.Common.{◌≡◌, ◌++◌, length, map}
use Rattle.schema_plans.specs.Validity.{with_each}
use Rattle.schema_build.proofs.formulas.set_each.Given as goal

abbrev pub invariant-loop-list : goal.invariant-loop-list
invariant-loop-list l = (l.at ≡ length l.yielded) × (l.objects ≡ with_each l.initial.objects (map (λ list. list.items) l.yielded)) × (l.yielded ++ l.list-iterator.rest.items ≡ l.fn.rules.items)
