use Rattle.tenant_front.proofs.Fronts.{part_once, front_fault_once, not_both, fault_is_of_first, finds_or_refuses, all_find}
use Rattle.tenant_front.proofs.laws.laws_of_fronts.Goals as goal

pub returns-clause-part : goal.returns-clause-part
returns-clause-part c = part_once c.laws_of_sessions.ensures.users

pub returns-clause-fault : goal.returns-clause-fault
returns-clause-fault c = front_fault_once c.laws_of_texts.ensures.decimal c.laws_of_sessions.ensures.not_both c.laws_of_sessions.ensures.fault

pub returns-clause-not_both : goal.returns-clause-not_both
returns-clause-not_both c = not_both c.laws_of_texts.ensures.decimal c.laws_of_sessions.ensures.not_both

pub returns-clause-first : goal.returns-clause-first
returns-clause-first c = fault_is_of_first

pub returns-clause-apart : goal.returns-clause-apart
returns-clause-apart c = finds_or_refuses c.laws_of_texts.ensures.decimal c.laws_of_sessions.ensures.not_both

pub returns-clause-all : goal.returns-clause-all
returns-clause-all c = all_find
