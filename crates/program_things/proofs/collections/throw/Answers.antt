use Rattle.std.proofs.Common.{subst}
use Rattle.apex_num.specs.declared.kind.LimitKind.TheVariants.{Alloc}
use Rattle.program_things.specs.Steps.{Charges}
use Rattle.program_things.proofs.Called.{threw, threw_over}
use Rattle.program_things.proofs.collections.throw.Goals as goal

pub returns-in-Some : goal.returns-in-Some
returns-in-Some c = threw_over c.args.class c.args.message c.args.c.now c.in-Some.moved c.charge.new.c (subst (λ r. Charges Alloc 0 c.args.c.now r c.charge.new.c) c.in-Some.is c.charge.ensures)

pub returns-in-None : goal.returns-in-None
returns-in-None c = threw c.args.class c.args.message c.args.c.now c.charge.new.c c.raise.result c.raise.new.c (subst (λ r. Charges Alloc 0 c.args.c.now r c.charge.new.c) c.in-None.is c.charge.ensures) c.raise.ensures
