use Rattle.apex_num.specs.declared.kind.LimitKind.TheVariants.{Alloc}
use Rattle.limit_meter.specs.Charges.{limit_of}
use Rattle.value_texts.proofs.Deep.{deeper}
use Rattle.value_texts.proofs.laws.laws_of_depth.Goals as goal

pub returns : goal.returns
returns c = λ schema classes heap v n le. deeper schema classes heap (limit_of Alloc) n v le
