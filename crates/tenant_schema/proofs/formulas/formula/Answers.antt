use Rattle.tenant_schema.proofs.Steps.{told}
use Rattle.tenant_schema.proofs.formulas.formula.Goals as goal

pub returns : goal.returns
returns c = told c.args.object.now c.args.rule.now c.bytes.result.now c.read_rule_by.result c.bytes.ensures.value c.read_rule_by.ensures.reads c.read_rule_by.ensures.only c.read_rule_by.ensures.none
