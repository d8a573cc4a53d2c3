use Rattle.std.proofs.Common.{subst}
use Rattle.token_grammar.specs.Notation.{seen}
use Rattle.apex_parse_leaf.specs.Ends.{IsEnd}
use Rattle.apex_parse_stmt.proofs.Looks.{typed, untyped}
use Rattle.apex_parse_stmt.proofs.look.is_declared.Goals as goal

pub returns-in-Some : goal.returns-in-Some
returns-in-Some c = typed (seen c.args.tokens.now) c.args.at c.in-Some.end c.is_named.result (subst (IsEnd (seen c.args.tokens.now) c.args.at) c.in-Some.is c.in_ok-end.ensures) c.is_named.ensures

pub returns-in-None : goal.returns-in-None
returns-in-None c = untyped (seen c.args.tokens.now) c.args.at (subst (IsEnd (seen c.args.tokens.now) c.args.at) c.in-None.is c.in_ok-end.ensures)
