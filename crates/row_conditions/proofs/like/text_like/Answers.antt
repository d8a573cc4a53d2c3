use Rattle.std.proofs.Common.{rules}
use Rattle.row_conditions.proofs.Columns.{like_is}
use Rattle.row_conditions.proofs.like.text_like.Goals as goal

pub returns : goal.returns
returns c = search (rules, like_is)
