use Rattle.std.proofs.Common.{[], take}
use Rattle.tenant_requests.specs.Requests.{AreOpenSessions}
use Rattle.tenant_requests.proofs.open.open_sessions.Given as goal

abbrev pub invariant-entries : goal.invariant-entries
invariant-entries l = AreOpenSessions l.places.schema.now (take l.i l.users) (take l.i l.entries) [] l.sessions l.blocks
