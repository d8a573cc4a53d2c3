use Rattle.store_inquiries.proofs.Inquiring.{each_takes, goes_on, store_answers, behind}
use Rattle.store_inquiries.proofs.laws.laws_of_inquiries.Goals as goal

pub returns : goal.returns
returns g c = record { takes = each_takes; goes_on = goes_on; stores = store_answers; behind = behind }
