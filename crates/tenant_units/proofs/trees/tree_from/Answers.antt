use Rattle.std.proofs.Common.{rules}
use Rattle.tenant_units.specs.Faults.{IsTold, parse_word}
use Rattle.tenant_units.specs.Trees.{rule_of}
use Rattle.tenant_units.proofs.Ones.{whole_tree, whole_only, refused_tree, refused_only}
use Rattle.tenant_units.proofs.trees.tree_from.Goals as goal

pub returns-in-Ok-clause-tree : goal.returns-in-Ok-clause-tree
returns-in-Ok-clause-tree c = whole_tree (rule_of c.args.kind) c.args.name.now c.args.text.now c.args.tokens.now c.requires.found c.requires.only c.in-Ok.tree c.in-Ok.ensures

pub returns-in-Ok-clause-only : goal.returns-in-Ok-clause-only
returns-in-Ok-clause-only c = whole_only (rule_of c.args.kind) c.args.name.now c.args.text.now c.args.tokens.now c.requires.found c.requires.only c.in-Ok.tree c.in-Ok.ensures

pub returns-in-Err-Wrong-clause-tree : goal.returns-in-Err-Wrong-clause-tree
returns-in-Err-Wrong-clause-tree c =
    let told : IsTold c.args.name.now c.args.text.now c.in-Err-Wrong.span.from (parse_word c.in-Err-Wrong.word) c.fault_at.result = search rules in
    refused_tree (rule_of c.args.kind) c.args.name.now c.args.text.now c.args.tokens.now c.requires.found c.requires.only c.in-Err-Wrong.word c.in-Err-Wrong.span (rw c.in-Err-Wrong.field-0-is at c.in-Err-Wrong.ensures) c.fault_at.result told

pub returns-in-Err-Wrong-clause-only : goal.returns-in-Err-Wrong-clause-only
returns-in-Err-Wrong-clause-only c =
    let told : IsTold c.args.name.now c.args.text.now c.in-Err-Wrong.span.from (parse_word c.in-Err-Wrong.word) c.fault_at.result = search rules in
    refused_only (rule_of c.args.kind) c.args.name.now c.args.text.now c.args.tokens.now c.requires.found c.requires.only c.in-Err-Wrong.word c.in-Err-Wrong.span (rw c.in-Err-Wrong.field-0-is at c.in-Err-Wrong.ensures) c.fault_at.result told
