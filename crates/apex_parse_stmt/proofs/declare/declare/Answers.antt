use Rattle.std.proofs.Common.{ap}
use Rattle.apex_syntax.specs.declared.stmt.Stmt.TheVariants.{Declare}
use Rattle.token_grammar.proofs.Chain.{next, halt, past, stuck, here, raised, ended, given}
use Rattle.apex_parse_stmt.proofs.declare.declare.Goals as goal

pub returns-in_err-names : goal.returns-in_err-names
returns-in_err-names c = raised c.from_residual-in_err-names.ensures (here (next c.in_ok-kind.ensures (halt c.in_err-names.ensures)))

pub returns-in_err-end : goal.returns-in_err-end
returns-in_err-end c = raised c.from_residual-in_err-end.ensures (here (next c.in_ok-kind.ensures (next c.in_ok-names.ensures (stuck c.in_err-end.ensures))))

pub returns : goal.returns
returns c = here (next c.in_ok-kind.ensures (next c.in_ok-names.ensures (past c.in_ok-end.ensures (ended c.span_of-span.ensures (λ ts. given (ap (λ k. Declare c.span_of-span.result k c.in_ok-names.names) c.into_value.ensures) c.boxed.ensures)))))
