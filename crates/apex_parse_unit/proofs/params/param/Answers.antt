use Rattle.std.proofs.Common.{ap}
use Rattle.apex_parse_unit.proofs.Methods.{param_tree}
use Rattle.token_grammar.proofs.Chain.{next, halt, here, raised, ended, given}
use Rattle.apex_parse_unit.proofs.params.param.Goals as goal

pub returns-in_err-name : goal.returns-in_err-name
returns-in_err-name c = raised c.from_residual-in_err-name.ensures (here (next c.in_ok-kind.ensures (halt c.in_err-name.ensures)))

pub returns : goal.returns
returns c = here (next c.in_ok-kind.ensures (next c.in_ok-name.ensures (ended c.span_of-span.ensures (λ ts. given (ap (param_tree c.span_of-span.result c.in_ok-name.name) c.into_value-kind.ensures) c.boxed.ensures))))
