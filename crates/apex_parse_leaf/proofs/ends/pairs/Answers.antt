use Rattle.apex_parse_leaf.proofs.LookSteps.{no_arrays}
use Rattle.apex_parse_leaf.proofs.ends.pairs.Goals as goal

pub returns-in-Err-At : goal.returns-in-Err-At
returns-in-Err-At c = no_arrays (rw c.in-Err-At.field-0-is at c.in-Err-At.ensures)
