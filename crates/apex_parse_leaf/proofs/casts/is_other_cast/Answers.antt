use Rattle.apex_parse_leaf.proofs.Looks.{other_some, other_none}
use Rattle.apex_parse_leaf.proofs.casts.is_other_cast.Goals as goal

pub returns-in-Some : goal.returns-in-Some
returns-in-Some c = other_some c.is_cast_end.result (rw c.in-Some.is at c.in_ok-end.ensures) c.is_cast_end.ensures

pub returns-in-None : goal.returns-in-None
returns-in-None c = other_none (rw c.in-None.is at c.in_ok-end.ensures)
