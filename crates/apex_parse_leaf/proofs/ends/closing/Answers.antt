use Rattle.token_grammar.specs.Notation.{seen}
use Rattle.apex_parse_leaf.proofs.LookSteps.{shuts, shuts_not, later_shuts, later_second}
use Rattle.apex_parse_leaf.proofs.ends.closing.Goals as goal

pub returns-in-Some-clause-same : goal.returns-in-Some-clause-same
returns-in-Some-clause-same c = shuts c.args.second c.if-is_sign.ensures (rw c.in-Some.is at c.in_ok-end.ensures)

pub returns-in-Some-clause-later : goal.returns-in-Some-clause-later
returns-in-Some-clause-later c = later_shuts (seen c.args.tokens.now) c.if-is_sign.ensures (rw c.in-Some.is at c.in_ok-end.ensures)

pub returns-in-None-clause-same : goal.returns-in-None-clause-same
returns-in-None-clause-same c = shuts_not c.args.second c.if-is_sign.ensures (rw c.in-None.is at c.in_ok-end.ensures)

pub returns-then-is_sign-2-clause-later : goal.returns-then-is_sign-2-clause-later
returns-then-is_sign-2-clause-later c = later_second (seen c.args.tokens.now) c.if-is_sign-2.ensures
