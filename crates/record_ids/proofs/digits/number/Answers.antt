use Rattle.record_ids.proofs.Steps.{number_is}
use Rattle.record_ids.proofs.digits.number.Goals as goal

pub returns-clause-value : goal.returns-clause-value
returns-clause-value c =
    number_is c.args.digits.now c.value.result c.value-2.result c.value-3.result c.value-4.result c.requires.count c.value.ensures.small c.value-2.ensures.small c.value-3.ensures.small c.value-4.ensures.small
    c.value.ensures.value c.value-2.ensures.value c.value-3.ensures.value c.value-4.ensures.value
