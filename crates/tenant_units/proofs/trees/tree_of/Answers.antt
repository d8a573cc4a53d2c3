use Rattle.std.proofs.Common.{rules, ◌≡◌, List, sym, subst}
use Rattle.apex_lexer.specs.Reading.{Shown, HasTokens}
use Rattle.token_grammar.specs.Notation.{seen}
use Rattle.tenant_units.specs.Faults.{IsTold, lex_word}
use Rattle.tenant_units.specs.Trees.{rule_of}
use Rattle.tenant_units.proofs.Ones.{no_tokens, no_tokens_only}
use Rattle.tenant_units.proofs.trees.tree_of.Goals as goal

pub returns-in-Err-Wrong-clause-tree : goal.returns-in-Err-Wrong-clause-tree
returns-in-Err-Wrong-clause-tree c =
    let told : IsTold c.args.name.now c.args.text.now c.in-Err-Wrong.span.from (lex_word c.in-Err-Wrong.word) c.fault_at.result = search rules in
    no_tokens (rule_of c.args.kind) c.args.name.now c.args.text.now c.in-Err-Wrong.word c.in-Err-Wrong.span (rw c.in-Err-Wrong.field-0-is at c.in-Err-Wrong.ensures.fault) c.fault_at.result told

pub returns-in-Err-Wrong-clause-only : goal.returns-in-Err-Wrong-clause-only
returns-in-Err-Wrong-clause-only c =
    let told : IsTold c.args.name.now c.args.text.now c.in-Err-Wrong.span.from (lex_word c.in-Err-Wrong.word) c.fault_at.result = search rules in
    no_tokens_only (rule_of c.args.kind) c.args.name.now c.args.text.now c.in-Err-Wrong.word c.in-Err-Wrong.span (rw c.in-Err-Wrong.field-0-is at c.in-Err-Wrong.ensures.fault) c.fault_at.result told

pub tree_from-requires-clause-only : goal.tree_from-requires-clause-only
tree_from-requires-clause-only c = subst (λ ts. (other : List Shown) → HasTokens c.args.text.now other → other ≡ seen ts) (sym c.deref.ensures.value) c.in-Ok.ensures.only
