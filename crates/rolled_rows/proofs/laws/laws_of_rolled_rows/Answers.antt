use Rattle.rolled_rows.proofs.LawSteps.{range_is_decimals, rows_stay_rows}
use Rattle.rolled_rows.proofs.laws.laws_of_rolled_rows.Goals as goal

pub returns-clause-range : goal.returns-clause-range
returns-clause-range c = range_is_decimals

pub returns-clause-rows : goal.returns-clause-rows
returns-clause-rows c = rows_stay_rows
