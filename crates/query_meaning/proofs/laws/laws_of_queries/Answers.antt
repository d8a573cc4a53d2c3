use Rattle.query_meaning.proofs.Runs.{finds, answers_what_it_means, changes_nothing, takes_one_by_one}
use Rattle.query_meaning.proofs.laws.laws_of_queries.Goals as goal

pub returns : goal.returns
returns g c = record { finds = finds; answers = answers_what_it_means _; changes = changes_nothing _; takes = takes_one_by_one _ }
