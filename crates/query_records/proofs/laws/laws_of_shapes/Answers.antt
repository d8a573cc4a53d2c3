use Rattle.query_records.proofs.Ids.{parents_stay, parents_under_stay, ids_come_first, ids_under_come_first}
use Rattle.query_records.proofs.laws.laws_of_shapes.Goals as goal

pub returns : goal.returns
returns c = record { parents = parents_stay; parents_under = parents_under_stay; values = ids_come_first; values_under = ids_under_come_first }
