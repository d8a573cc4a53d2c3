use Rattle.token_grammar.proofs.Laws.{found, refused}
use Rattle.apex_parse_unit.proofs.whole.trigger_unit.Goals as goal

pub returns-in-Ok : goal.returns-in-Ok
returns-in-Ok c = record { end = _; found = found c.in-Ok.ensures }

pub returns-in-Err : goal.returns-in-Err
returns-in-Err c = rw c.fault_of.ensures (refused c.in-Err.ensures)
