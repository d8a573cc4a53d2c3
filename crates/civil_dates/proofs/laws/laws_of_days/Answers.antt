use Rattle.civil_dates.proofs.LawSteps.{date_of_day, days_of_years, days_between, months_are_later, leap_february}
use Rattle.civil_dates.proofs.laws.laws_of_days.Goals as goal

pub returns-clause-date : goal.returns-clause-date
returns-clause-date c = date_of_day

pub returns-clause-years : goal.returns-clause-years
returns-clause-years c = days_of_years

pub returns-clause-between : goal.returns-clause-between
returns-clause-between c = days_between

pub returns-clause-months : goal.returns-clause-months
returns-clause-months c = months_are_later

pub returns-clause-leap : goal.returns-clause-leap
returns-clause-leap c = leap_february
