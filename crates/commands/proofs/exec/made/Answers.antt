use Rattle.std.proofs.Common.{subst, refl}
use Rattle.tenant_units.specs.Faults.{NoTree, OnlyFault}
use Rattle.tenant_units.specs.Trees.{block_rule, block_name}
use Rattle.commands.proofs.Blocks.{if_ok, treeless}
use Rattle.commands.proofs.exec.made.Goals as goal

pub judged-requires-clause-tree : goal.judged-requires-clause-tree
judged-requires-clause-tree c = record { is = rw c.get.ensures c.in-Ok.ensures.tree; only = λ other is. rw c.get.ensures (c.in-Ok.ensures.only.0 other is) }

pub returns-in-Err-Wrong : goal.returns-in-Err-Wrong
returns-in-Err-Wrong c =
    let why = subst (λ x. NoTree block_rule block_name c.args.bytes.now x) c.in-Err-Wrong.field-0-is c.in-Err-Wrong.ensures.tree in
    let only = subst (λ x. OnlyFault block_rule block_name c.args.bytes.now x) c.in-Err-Wrong.field-0-is c.in-Err-Wrong.ensures.only in
    if_ok _ _ c.refused.result (λ made is. treeless _ _ c.args.bytes.now made c.in-Err-Wrong.fault why only.1 refl c.requires is) c.refused.ensures
