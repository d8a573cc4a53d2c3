use Rattle.token_grammar.proofs.Chain.{next, halt, raised, skip_more, last, last_stuck}
use Rattle.token_grammar.proofs.Moves.{nearer}
use Rattle.soql_parse.proofs.Groups.{inner_moves, group_at, omega_room}
use Rattle.soql_parse.proofs.ranges.+group.Goals as goal

pub group-returns-in_err-behind : goal.group-returns-in_err-behind
group-returns-in_err-behind t c = raised c.from_residual-in_err-behind.ensures (group_at (omega_room c.args.room c.in_ok-close.ensures.room) (next c.in_ok-close.ensures.told (halt c.in_err-behind.ensures)))

pub group-returns-in_err-end : goal.group-returns-in_err-end
group-returns-in_err-end t c = raised c.from_residual-in_err-end.ensures (group_at (omega_room c.args.room c.in_ok-close.ensures.room) (next c.in_ok-close.ensures.told (next c.in_ok-behind.ensures (last_stuck c.in_err-end.ensures))))

pub group-returns : goal.group-returns
group-returns t c = group_at (omega_room c.args.room c.in_ok-close.ensures.room) (next c.in_ok-close.ensures.told (next c.in_ok-behind.ensures (last c.in_ok-end.ensures)))

pub inners-inners-smaller : goal.inners-inners-smaller
inners-inners-smaller t c = nearer (inner_moves _) c.in_ok-after.ensures

pub inners-inners-preserved : goal.inners-inners-preserved
inners-inners-preserved t c = skip_more c.inners.invariant c.inners-test.ensures c.in_ok-after.ensures
