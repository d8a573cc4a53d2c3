use Rattle.civil_dates.proofs.TextLaws.{date_is_read, date_has_form, clock_is_read, moment_is_read, moment_has_form, stamp_is_moment}
use Rattle.civil_dates.proofs.laws.laws_of_texts.Goals as goal

pub returns-clause-date : goal.returns-clause-date
returns-clause-date c = date_is_read

pub returns-clause-date_form : goal.returns-clause-date_form
returns-clause-date_form c = date_has_form

pub returns-clause-clock : goal.returns-clause-clock
returns-clause-clock c = clock_is_read

pub returns-clause-moment : goal.returns-clause-moment
returns-clause-moment c = moment_is_read

pub returns-clause-moment_form : goal.returns-clause-moment_form
returns-clause-moment_form c = moment_has_form

pub returns-clause-stamp : goal.returns-clause-stamp
returns-clause-stamp c = stamp_is_moment
