use Rattle.std.proofs.Common.{◌≡◌, ◌++◌}
use Rattle.tenant_requests.specs.Requests.{AreClosedSessions}
use Rattle.tenant_requests.proofs.closed.closed_sessions.Given as goal

abbrev pub invariant-loop-session : goal.invariant-loop-session
invariant-loop-session l = AreClosedSessions l.faults l.yielded l.all × (l.yielded ++ l.session-iterator.rest.items ≡ l.fn.sessions)
