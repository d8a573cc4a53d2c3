use Rattle.std.proofs.Common.{refl}
use Rattle.program_things.proofs.Called.{renamed}
use Rattle.program_things.proofs.Named.{named}
use Rattle.program_things.proofs.values.operator_next.Goals as goal

pub returns-in-Arithmetic : goal.returns-in-Arithmetic
returns-in-Arithmetic c =
    renamed c.applied_next.result _ _ c.applied_next.new.c (named c.args.left c.args.op _ c.args.right c.args.v.now c.args.w.now c.args.c.now c.args.c.now.top.stack c.in-Arithmetic.is refl) c.applied_next.ensures

pub returns-in-Equal : goal.returns-in-Equal
returns-in-Equal c =
    renamed c.applied_next-in-Equal.result _ _ c.applied_next-in-Equal.new.c (named c.args.left c.args.op _ c.args.right c.args.v.now c.args.w.now c.args.c.now c.args.c.now.top.stack c.in-Equal.is refl) c.applied_next-in-Equal.ensures

pub returns-in-Differs : goal.returns-in-Differs
returns-in-Differs c =
    renamed c.applied_next-in-Differs.result _ _ c.applied_next-in-Differs.new.c (named c.args.left c.args.op _ c.args.right c.args.v.now c.args.w.now c.args.c.now c.args.c.now.top.stack c.in-Differs.is refl) c.applied_next-in-Differs.ensures

pub returns-in-Order : goal.returns-in-Order
returns-in-Order c =
    renamed c.applied_next-in-Order.result _ _ c.applied_next-in-Order.new.c (named c.args.left c.args.op _ c.args.right c.args.v.now c.args.w.now c.args.c.now c.args.c.now.top.stack c.in-Order.is refl) c.applied_next-in-Order.ensures

pub returns-in-And : goal.returns-in-And
returns-in-And c =
    renamed c.applied_next-in-And.result _ _ c.applied_next-in-And.new.c (named c.args.left c.args.op _ c.args.right c.args.v.now c.args.w.now c.args.c.now c.args.c.now.top.stack c.in-And.is refl) c.applied_next-in-And.ensures

pub returns-in-Or : goal.returns-in-Or
returns-in-Or c =
    renamed c.applied_next-in-Or.result _ _ c.applied_next-in-Or.new.c (named c.args.left c.args.op _ c.args.right c.args.v.now c.args.w.now c.args.c.now c.args.c.now.top.stack c.in-Or.is refl) c.applied_next-in-Or.ensures
