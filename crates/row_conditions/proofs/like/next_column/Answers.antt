use Rattle.std.proofs.Common.{rules}
use Rattle.std.proofs.lemmas.List.{nil_from_length}
use Rattle.row_conditions.proofs.Columns.{stays}
use Rattle.row_conditions.proofs.like.next_column.Goals as goal

pub returns-in_default-split_first : goal.returns-in_default-split_first
returns-in_default-split_first c = stays _ _ _ _ _ _ _ (search (rules, nil_from_length)) c.loop-part.invariant
