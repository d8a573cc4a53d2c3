use Rattle.std.proofs.Common.{ap}
use Rattle.apex_syntax.specs.declared.unit.Unit.TheVariants.{Class}
use Rattle.token_grammar.proofs.Chain.{next, past, stuck, raised, given}
use Rattle.apex_parse_unit.proofs.whole.class_whole.Goals as goal

pub returns-in_err-end : goal.returns-in_err-end
returns-in_err-end c = raised c.from_residual-in_err-end.ensures (next c.in_ok-tree.ensures (stuck c.in_err-end.ensures))

pub returns : goal.returns
returns c = next c.in_ok-tree.ensures (past c.in_ok-end.ensures (given (ap Class c.into_value.ensures) c.boxed.ensures))
