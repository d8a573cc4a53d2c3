use Rattle.token_grammar.proofs.Chain.{next, stuck, raised}
use Rattle.apex_parse_unit.proofs.classes.class_body.Goals as goal

pub returns-in_err-end : goal.returns-in_err-end
returns-in_err-end c = raised c.from_residual-in_err-end.ensures (next c.in_ok-inside.ensures.told (next c.in_ok-members.ensures (stuck c.in_err-end.ensures)))
