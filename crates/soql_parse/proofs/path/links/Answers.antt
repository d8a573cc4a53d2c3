use Rattle.std.proofs.Common.{ap, inl, arith}
use Rattle.token_grammar.proofs.Chain.{past, raised}
use Rattle.token_grammar.proofs.Moves.{nearer}
use Rattle.std.proofs.Common.{◌∙◌, ◌++◌, ◌∷◌, []}
use Rattle.apex_lexer.specs.declared.token.Sign.TheVariants.{Dot}
use Rattle.token_grammar.specs.declared.read.Names.TheVariants.{AllWords}
use Rattle.token_grammar.specs.Notation.{Then}
use Rattle.token_grammar.specs.Tokens.{sign, name}
use Rattle.soql_parse.proofs.Paths.{links_begun, links_stuck, links_full, links_more, links_ended}
use Rattle.soql_parse.proofs.path.links.Goals as goal

pub links-init : goal.links-init
links-init c = links_begun (c.in_ok-push.ensures.ok ∙ ap (λ z. z ++ c.args.first ∷ []) c.new-names.ensures)

pub returns-in_err-word : goal.returns-in_err-word
returns-in_err-word c = raised c.from_residual-in_err-word.ensures (links_stuck c.links.invariant c.links-test.ensures c.in_ok-behind.ensures c.in_err-word.ensures)

pub returns-then-len-eq6 : goal.returns-then-len-eq6
returns-then-len-eq6 c = links_full c.links.invariant (omega arith) c.links-test.ensures c.in_ok-behind.ensures c.in_ok-word.ensures

pub links-smaller : goal.links-smaller
links-smaller c = nearer {r = Then (sign Dot) (λ _. name AllWords)} (inl tt) (past c.in_ok-behind.ensures c.in_ok-word.ensures)

pub links-preserved : goal.links-preserved
links-preserved c = links_more c.links.invariant (omega arith) c.links-test.ensures c.in_ok-behind.ensures c.in_ok-word.ensures c.in_ok-push-2.ensures.ok

pub returns : goal.returns
returns c = links_ended c.links.invariant c.links-test.ensures
