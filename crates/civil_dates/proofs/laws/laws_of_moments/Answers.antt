use Rattle.civil_dates.proofs.LawSteps.{in_its_day, clock_of_second, moments_of_years, moment_of_parts, hours_of_days}
use Rattle.civil_dates.proofs.laws.laws_of_moments.Goals as goal

pub returns-clause-day : goal.returns-clause-day
returns-clause-day c = in_its_day

pub returns-clause-clock : goal.returns-clause-clock
returns-clause-clock c = clock_of_second

pub returns-clause-years : goal.returns-clause-years
returns-clause-years c = moments_of_years

pub returns-clause-parts : goal.returns-clause-parts
returns-clause-parts c = moment_of_parts

pub returns-clause-hours : goal.returns-clause-hours
returns-clause-hours c = hours_of_days
