use Rattle.tenant_runs.proofs.Parts.{parts_have_room}
use Rattle.tenant_runs.proofs.laws.laws_of_parts.Goals as goal

pub returns : goal.returns
returns c = record { parts = parts_have_room }
