use Rattle.apex_parse_leaf.proofs.LookSteps.{then_on, no_end, one_end}
use Rattle.apex_parse_leaf.proofs.ends.type_end.Goals as goal

pub returns-in-None : goal.returns-in-None
returns-in-None c = one_end c.in-None.ensures.0 (rw c.in-Behind.is at c.types.invariant)

pub returns-in-Nothing : goal.returns-in-Nothing
returns-in-Nothing c = no_end (rw c.in-Nothing.is at c.types.invariant)

pub types-preserved-in_ok-next-in-Due : goal.types-preserved-in_ok-next-in-Due
types-preserved-in_ok-next-in-Due c = then_on (rw c.in-Due.is at c.types.invariant) c.in_ok-next-in-Due.ensures.same

pub types-preserved : goal.types-preserved
types-preserved c = then_on (rw (c.in-Behind.is, c.in-Some.ensures) at c.types.invariant) c.in_ok-next-in-Some.ensures.same
