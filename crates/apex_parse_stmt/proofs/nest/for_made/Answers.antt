use Rattle.std.proofs.Common.{sym, ap, ◌∙◌}
use Rattle.apex_syntax.specs.declared.stmt.Stmt.TheVariants.{For, ForEach}
use Rattle.token_grammar.proofs.Chain.{given}
use Rattle.apex_parse_stmt.specs.Stmts.{for_tree}
use Rattle.apex_parse_stmt.proofs.nest.for_made.Goals as goal

pub returns-in-Each : goal.returns-in-Each
returns-in-Each c = λ ts. given (ap (λ k. ForEach c.args.span k c.in-Each.name c.in-Each.list c.args.stmt) c.into_value-kind.ensures ∙ sym (ap (λ h. for_tree c.args.span h c.args.stmt) (sym c.into_value.ensures ∙ c.in-Each.is))) c.boxed.ensures

pub returns-in-Loop : goal.returns-in-Loop
returns-in-Loop c = λ ts. given (ap (λ s. For c.args.span s c.in-Loop.cond c.in-Loop.step c.args.stmt) c.into_value-start.ensures ∙ sym (ap (λ h. for_tree c.args.span h c.args.stmt) (sym c.into_value.ensures ∙ c.in-Loop.is))) c.boxed-in-Loop.ensures
