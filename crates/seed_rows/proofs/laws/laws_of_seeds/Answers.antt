use Rattle.seed_rows.proofs.LawSteps.{ids_differ, rows_are_of_schema}
use Rattle.seed_rows.proofs.laws.laws_of_seeds.Goals as goal

pub returns-clause-rows : goal.returns-clause-rows
returns-clause-rows c = rows_are_of_schema c.laws_of_rolled_rows.ensures.rows

pub returns-clause-ids : goal.returns-clause-ids
returns-clause-ids c = ids_differ
