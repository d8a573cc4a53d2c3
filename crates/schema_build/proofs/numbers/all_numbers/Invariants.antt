use Rattle.std.proofs.Common.{◌≡◌, ℕ, List, take, length}
use Rattle.schema_build.specs.Lookups.{found_at}
use Rattle.schema_plans.specs.Plans.{number_in}
use Rattle.schema_build.proofs.numbers.all_numbers.Given as goal

abbrev pub invariant-loop-object : goal.invariant-loop-object
invariant-loop-object l = (length l.all.items ≡ l.object-index) × ((d : ℕ) (n : List ℕ) → found_at l.all.items d n ≡ number_in (take l.object-index l.plan.objects) d n)
