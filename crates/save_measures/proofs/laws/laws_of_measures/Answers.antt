use Rattle.save_measures.proofs.Lower.{moves_end}
use Rattle.save_measures.proofs.Pay.{moves_pay}
use Rattle.save_measures.proofs.laws.laws_of_measures.Goals as goal

pub returns : goal.returns
returns c = record { end = moves_end; pay = moves_pay }
