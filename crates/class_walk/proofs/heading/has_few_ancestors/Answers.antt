use Rattle.class_walk.specs.Headers.{has_few_ancestors}
use Rattle.class_walk.proofs.heading.has_few_ancestors.Goals as goal

pub returns : goal.returns
unfolding has_few_ancestors
returns c = c.ends_within.ensures
