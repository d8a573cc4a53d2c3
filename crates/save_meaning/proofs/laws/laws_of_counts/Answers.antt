use Rattle.std.proofs.Common.{ap}
use Rattle.std.specs.Prelude.{min}
use Rattle.apex_rows.specs.declared.query.Cond.TheVariants.{All}
use Rattle.row_meaning.specs.Conds.{local_part}
use Rattle.save_meaning.specs.Counts.{count_most}
use Rattle.save_meaning.proofs.Counting.{counted}
use Rattle.save_meaning.proofs.Locals.{local_holds}
use Rattle.save_meaning.proofs.laws.laws_of_counts.Goals as goal

pub returns : goal.returns
returns c = record {
  whole = λ overlay store object cnd keyed. ap (λ n. min n count_most) (counted object (All (local_part cnd)) cnd (λ r. local_holds r cnd) overlay store keyed);
}
