use Rattle.std.proofs.Common.{◌≡◌, ◌++◌, drop, map}
use Rattle.stack_code.specs.Code.{expr_code, fields_of, joined, pairs_code}
use Rattle.stack_compiler.specs.Codes.{bind_code, binds_code, item_code, kinds_of, operand_code, pair_code, part_code}
use Rattle.stack_compiler.proofs.exprs.+emit.Given as goal

abbrev pub invariant-emit_exprs-loop-expr : goal.invariant-emit_exprs-loop-expr
invariant-emit_exprs-loop-expr l = l.code.items ++ joined (map (expr_code l.layout.program.now) (drop l.expr-index l.exprs)) ≡ l.fn.code.items ++ joined (map (expr_code l.layout.program.now) l.exprs)

abbrev pub invariant-emit_operands-loop-operand : goal.invariant-emit_operands-loop-operand
invariant-emit_operands-loop-operand l = l.code.items ++ joined (map (operand_code l.layout.program.now) (drop l.operand-index l.operands)) ≡ l.fn.code.items ++ joined (map (operand_code l.layout.program.now) l.operands)

abbrev pub invariant-emit_parts-loop-part : goal.invariant-emit_parts-loop-part
invariant-emit_parts-loop-part l = l.code.items ++ joined (map (part_code l.layout.program.now) (drop l.part-index l.parts)) ≡ l.fn.code.items ++ joined (map (part_code l.layout.program.now) l.parts)

abbrev pub invariant-emit_record-loop-pair : goal.invariant-emit_record-loop-pair
invariant-emit_record-loop-pair l =
    (l.code.items ++ pairs_code (map (pair_code l.layout.program.now) (drop l.pair-index l.pairs)) ≡ l.fn.code.items ++ pairs_code (map (pair_code l.layout.program.now) l.pairs))
    × (l.fields ++ fields_of (map (pair_code l.layout.program.now) (drop l.pair-index l.pairs)) ≡ fields_of (map (pair_code l.layout.program.now) l.pairs))

abbrev pub invariant-emit_entries-loop-item : goal.invariant-emit_entries-loop-item
invariant-emit_entries-loop-item l = l.code.items ++ joined (map (item_code l.layout.program.now) (drop l.item-index l.items)) ≡ l.fn.code.items ++ joined (map (item_code l.layout.program.now) l.items)

abbrev pub invariant-emit_binds-loop-bind : goal.invariant-emit_binds-loop-bind
invariant-emit_binds-loop-bind l =
    (l.code.items ++ binds_code (map (bind_code l.layout.program.now) (drop l.bind-index l.binds)) ≡ l.fn.code.items ++ binds_code (map (bind_code l.layout.program.now) l.binds))
    × (l.kinds ++ kinds_of (map (bind_code l.layout.program.now) (drop l.bind-index l.binds)) ≡ kinds_of (map (bind_code l.layout.program.now) l.binds))
