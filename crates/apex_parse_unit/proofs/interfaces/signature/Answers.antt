use Rattle.std.proofs.Common.{ap}
use Rattle.apex_parse_unit.proofs.Methods.{signature_tree}
use Rattle.token_grammar.proofs.Chain.{next, halt, past, stuck, here, raised, ended, given}
use Rattle.apex_parse_unit.proofs.interfaces.signature.Goals as goal

pub returns-in_err-name : goal.returns-in_err-name
returns-in_err-name c = raised c.from_residual-in_err-name.ensures (here (next c.in_ok-answer.ensures (halt c.in_err-name.ensures)))

pub returns-in_err-params : goal.returns-in_err-params
returns-in_err-params c = raised c.from_residual-in_err-params.ensures (here (next c.in_ok-answer.ensures (next c.in_ok-name.ensures (halt c.in_err-params.ensures))))

pub returns-in_err-end : goal.returns-in_err-end
returns-in_err-end c = raised c.from_residual-in_err-end.ensures (here (next c.in_ok-answer.ensures (next c.in_ok-name.ensures (next c.in_ok-params.ensures (stuck c.in_err-end.ensures)))))

pub returns : goal.returns
returns c = here (next c.in_ok-answer.ensures (next c.in_ok-name.ensures (next c.in_ok-params.ensures (past c.in_ok-end.ensures (ended c.span_of-span.ensures (λ ts. given (ap (signature_tree c.span_of-span.result c.in_ok-name.name c.in_ok-params.params) c.into_value.ensures) c.boxed.ensures))))))
