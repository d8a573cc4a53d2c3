use Rattle.token_grammar.proofs.Chain.{next, halt, stuck, here, since, gives, raised}
use Rattle.apex_parse_leaf.proofs.Pairs.{deepen_type, type_by}
use Rattle.apex_parse_leaf.specs.Types.{type_args}
use Rattle.apex_parse_leaf.proofs.types.+types.Goals as goal

pub type_args-returns-in_err-args : goal.type_args-returns-in_err-args
type_args-returns-in_err-args t c = raised c.from_residual-in_err-args.ensures (deepen_type (type_args c.args.room) c.in_ok-inside.ensures.inside (next c.in_ok-inside.ensures.told (next c.in_ok-first.ensures (halt c.in_err-args.ensures))))

pub type_args-returns-in_err-end : goal.type_args-returns-in_err-end
type_args-returns-in_err-end t c = raised c.from_residual-in_err-end.ensures (deepen_type (type_args c.args.room) c.in_ok-inside.ensures.inside (next c.in_ok-inside.ensures.told (next c.in_ok-first.ensures (next c.in_ok-args.ensures (stuck c.in_err-end.ensures)))))

pub type_tree-returns-in_err-name : goal.type_tree-returns-in_err-name
type_tree-returns-in_err-name t c = raised c.from_residual.ensures (type_by c.args.room (here (halt c.in_err-name.ensures)))

pub type_tree-returns-in_err-member : goal.type_tree-returns-in_err-member
type_tree-returns-in_err-member t c = raised c.from_residual-in_err-member.ensures (type_by c.args.room (here (next c.in_ok-name.ensures (halt c.in_err-member.ensures))))

pub type_tree-returns-in_err-args : goal.type_tree-returns-in_err-args
type_tree-returns-in_err-args t c = raised c.from_residual-in_err-args.ensures (type_by c.args.room (here (next c.in_ok-name.ensures (next c.in_ok-member.ensures (halt c.in_err-args.ensures)))))

pub type_tree-returns-in_err-arrays : goal.type_tree-returns-in_err-arrays
type_tree-returns-in_err-arrays t c = raised c.from_residual-in_err-arrays.ensures (type_by c.args.room (here (next c.in_ok-name.ensures (next c.in_ok-member.ensures (next c.in_ok-args.ensures (halt c.in_err-arrays.ensures))))))

pub type_tree-returns : goal.type_tree-returns
type_tree-returns t c = rw c.span_of-span.ensures (type_by c.args.room (here (next c.in_ok-name.ensures (next c.in_ok-member.ensures (next c.in_ok-args.ensures (next c.in_ok-arrays.ensures (since gives)))))))
