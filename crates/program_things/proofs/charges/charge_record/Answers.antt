use Rattle.program_things.proofs.Sizes.{record_charges}
use Rattle.program_things.proofs.charges.charge_record.Goals as goal

pub returns : goal.returns
returns c = record_charges c.args.fields c.saturating_mul.result c.saturating_add-units.result c.args.c.now c.charge.result c.charge.new.c c.saturating_mul.ensures c.saturating_add-units.ensures c.charge.ensures
