use Rattle.apex_num.specs.Ids.{IsAlphanumeric}
use Rattle.record_ids.proofs.Steps.{all_four}
use Rattle.record_ids.proofs.digits.four.Goals as goal

pub returns-clause-form : goal.returns-clause-form
returns-clause-form c = all_four IsAlphanumeric c.digit.result c.digit-2.result c.digit-3.result c.digit-4.result c.digit.ensures.form c.digit-2.ensures.form c.digit-3.ensures.form c.digit-4.ensures.form
