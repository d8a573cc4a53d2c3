use Rattle.std.proofs.Common.{inl}
use Rattle.token_grammar.proofs.Chain.{next, halt, past, stuck, here, gives, refuses, raised, one_way, other_way, list_more, ended}
use Rattle.token_grammar.proofs.Moves.{nearer}
use Rattle.soql_parse.proofs.Conds.{one_by, deeper_cond, deeper_conds}
use Rattle.soql_parse.proofs.cond.+cond.Goals as goal

pub chain-conds-smaller : goal.chain-conds-smaller
chain-conds-smaller g t c = nearer (inl tt) c.in_ok-cond.ensures

pub chain-conds-preserved : goal.chain-conds-preserved
chain-conds-preserved g t c = list_more c.conds.invariant c.conds-test.ensures c.in_ok-cond.ensures c.in_ok-add-2.ensures.ok

pub negation-returns : goal.negation-returns
negation-returns g t c = here (next c.in_ok-inside.ensures.told (next (deeper_cond (g.K.BindRule.rule c.args.binds.now.how) c.in_ok-inside.ensures.inside c.in_ok-inner.ensures) (ended c.span_of-span.ensures c.boxed.ensures)))

pub enclosed-returns-in_err-inner : goal.enclosed-returns-in_err-inner
enclosed-returns-in_err-inner g t c = raised c.from_residual-in_err-inner.ensures (here (next c.in_ok-inside.ensures.told (halt (deeper_conds (g.K.BindRule.rule c.args.binds.now.how) c.in_ok-inside.ensures.inside c.in_err-inner.ensures))))

pub enclosed-returns-in_err-end : goal.enclosed-returns-in_err-end
enclosed-returns-in_err-end g t c = raised c.from_residual-in_err-end.ensures (here (next c.in_ok-inside.ensures.told (next (deeper_conds (g.K.BindRule.rule c.args.binds.now.how) c.in_ok-inside.ensures.inside c.in_ok-inner.ensures) (stuck c.in_err-end.ensures))))

pub enclosed-returns : goal.enclosed-returns
enclosed-returns g t c = here (next c.in_ok-inside.ensures.told (next (deeper_conds (g.K.BindRule.rule c.args.binds.now.how) c.in_ok-inside.ensures.inside c.in_ok-inner.ensures) (past c.in_ok-end.ensures (ended c.span_of-span.ensures c.boxed.ensures))))

pub one-returns-then-is_word : goal.one-returns-then-is_word
one-returns-then-is_word g t c = one_by (g.K.BindRule.rule c.args.binds.now.how) c.args.room (one_way c.if-is_word.ensures c.negation.ensures)

pub one-returns-then-is_sign : goal.one-returns-then-is_sign
one-returns-then-is_sign g t c = one_by (g.K.BindRule.rule c.args.binds.now.how) c.args.room (other_way c.if-is_word.ensures (one_way c.if-is_sign.ensures c.enclosed.ensures))

pub one-returns-else-is_sign : goal.one-returns-else-is_sign
one-returns-else-is_sign g t c = one_by (g.K.BindRule.rule c.args.binds.now.how) c.args.room (other_way c.if-is_word.ensures (other_way c.if-is_sign.ensures c.simple.ensures))

pub cond-returns-then-is_word : goal.cond-returns-then-is_word
cond-returns-then-is_word g t c = here (next c.in_ok-first.ensures (one_way c.if-is_word.ensures c.all_of.ensures))

pub cond-returns-then-is_word-2 : goal.cond-returns-then-is_word-2
cond-returns-then-is_word-2 g t c = here (next c.in_ok-first.ensures (other_way c.if-is_word.ensures (one_way c.if-is_word-2.ensures c.any_of.ensures)))

pub cond-returns-else-is_word-2 : goal.cond-returns-else-is_word-2
cond-returns-else-is_word-2 g t c = here (next c.in_ok-first.ensures (other_way c.if-is_word.ensures (other_way c.if-is_word-2.ensures gives)))

pub all_of-returns-then-is_word : goal.all_of-returns-then-is_word
all_of-returns-then-is_word g t c = next c.in_ok-conds.ensures (one_way c.if-is_word.ensures (here refuses))

pub all_of-returns : goal.all_of-returns
all_of-returns g t c = next c.in_ok-conds.ensures (other_way c.if-is_word.ensures (ended c.span_of-span.ensures c.boxed.ensures))

pub any_of-returns-then-is_word : goal.any_of-returns-then-is_word
any_of-returns-then-is_word g t c = next c.in_ok-conds.ensures (one_way c.if-is_word.ensures (here refuses))

pub any_of-returns : goal.any_of-returns
any_of-returns g t c = next c.in_ok-conds.ensures (other_way c.if-is_word.ensures (ended c.span_of-span.ensures c.boxed.ensures))
