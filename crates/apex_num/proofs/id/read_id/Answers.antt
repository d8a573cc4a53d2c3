use Rattle.std.proofs.Common.{rules}
use Rattle.apex_num.proofs.IdValues.{short, long, other}
use Rattle.apex_num.proofs.id.read_id.Goals as goal

pub returns-in-15-clause-value : goal.returns-in-15-clause-value
returns-in-15-clause-value c = short c.args.text.now c.short_id.result c.in-15.is c.short_id.ensures

pub returns-in-18-clause-value : goal.returns-in-18-clause-value
returns-in-18-clause-value c = long c.args.text.now c.checked_id.result c.in-18.is c.checked_id.ensures

pub returns-in_default-clause-value : goal.returns-in_default-clause-value
returns-in_default-clause-value c = other c.args.text.now (search rules) (search rules)
