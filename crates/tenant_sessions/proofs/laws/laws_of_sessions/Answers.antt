use Rattle.tenant_sessions.proofs.LawSteps.{users_or_fault, not_both, users_once, fault_once}
use Rattle.tenant_sessions.proofs.laws.laws_of_sessions.Goals as goal

pub returns : goal.returns
returns c = record { one_of = users_or_fault; not_both = not_both; users = users_once; fault = fault_once }
