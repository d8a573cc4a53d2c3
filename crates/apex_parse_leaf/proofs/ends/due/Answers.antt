use Rattle.token_grammar.specs.Notation.{seen}
use Rattle.apex_parse_leaf.proofs.LookSteps.{opens, ends, no_head, no_pairs, later_opens, later_ends}
use Rattle.apex_parse_leaf.proofs.ends.due.Goals as goal

pub returns-in_default-clause-same : goal.returns-in_default-clause-same
returns-in_default-clause-same c = no_head (rw c.in_default.is at c.in_ok-behind.ensures)

pub returns-then-is_sign-clause-same : goal.returns-then-is_sign-clause-same
returns-then-is_sign-clause-same c = rw c.in_ok-push.ensures.ok (opens (rw c.in-Some.is at c.in_ok-behind.ensures) c.if-is_sign.ensures)

pub returns-then-is_sign-clause-later : goal.returns-then-is_sign-clause-later
returns-then-is_sign-clause-later c = later_opens (seen c.args.tokens.now) (rw c.in-Some.is at c.in_ok-behind.ensures) c.if-is_sign.ensures

pub returns-in-Some-2-clause-same : goal.returns-in-Some-2-clause-same
returns-in-Some-2-clause-same c = ends (rw c.in-Some.is at c.in_ok-behind.ensures) c.if-is_sign.ensures (rw c.in-Some-2.is at c.in_ok-end.ensures)

pub returns-in-Some-2-clause-later : goal.returns-in-Some-2-clause-later
returns-in-Some-2-clause-later c = later_ends (rw c.in-Some.is at c.in_ok-behind.ensures) (rw c.in-Some-2.is at c.in_ok-end.ensures)

pub returns-in-None-clause-same : goal.returns-in-None-clause-same
returns-in-None-clause-same c = no_pairs (rw c.in-Some.is at c.in_ok-behind.ensures) c.if-is_sign.ensures (rw c.in-None.is at c.in_ok-end.ensures)
