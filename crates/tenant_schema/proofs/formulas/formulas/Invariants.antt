use Rattle.std.proofs.Common.{take}
use Rattle.tenant_schema.specs.Answers.{AreOnly}
use Rattle.tenant_schema.proofs.formulas.formulas.Given as goal

abbrev pub invariant-rules : goal.invariant-rules
invariant-rules l = AreOnly l.object (take l.i l.rules) l.read
