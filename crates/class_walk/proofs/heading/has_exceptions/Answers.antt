use Rattle.class_walk.specs.Headers.{has_exceptions}
use Rattle.class_walk.proofs.heading.has_exceptions.Goals as goal

pub returns : goal.returns
unfolding has_exceptions
returns c = c.reaches_exception.ensures
