use Rattle.std.proofs.Common.{take}
use Rattle.tenant_requests.specs.Requests.{AreOpen}
use Rattle.tenant_requests.proofs.open.open_requests.Given as goal

abbrev pub invariant-entries : goal.invariant-entries
invariant-entries l = AreOpen l.places.schema.now l.user (take l.i l.entries) l.fn.blocks l.all l.blocks
