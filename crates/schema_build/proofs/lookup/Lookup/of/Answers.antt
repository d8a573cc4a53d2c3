use Rattle.std.proofs.Common.{map, ap, ◌∙◌}
use Rattle.schema_plans.specs.Plans.{all_end_within}
use Rattle.schema_build.specs.Lookups.{masters_in}
use Rattle.schema_build.proofs.lookup.Lookup.of.Goals as goal

pub invariant_of-result-clause-short_is : goal.invariant_of-result-clause-short_is
invariant_of-result-clause-short_is c = λ n.
    c.in_ok-short.ensures n ∙ ap (λ ms. all_end_within ms 2 n) (ap (map masters_in) c.deref.ensures.value ∙ c.in_ok-masters.ensures)
