use Rattle.apex_parse_stmt.proofs.Begins.{begun}
use Rattle.apex_parse_unit.specs.Classes.{signature}
use Rattle.apex_parse_unit.specs.Members.{member, begins_member, begins_result}
use Rattle.apex_parse_unit.proofs.Begins.{member_begins, signature_begins}
use Rattle.apex_parse_unit.proofs.laws.laws_of_members.Goals as goal

pub returns-clause-members : goal.returns-clause-members
returns-clause-members c = λ tokens room at m end h. begun begins_member tokens (member room) at m end (member_begins room) h

pub returns-clause-signatures : goal.returns-clause-signatures
returns-clause-signatures c = λ tokens room at s end h. begun begins_result tokens (signature room) at s end (signature_begins room) h
