use Rattle.std.proofs.Common.{◌≡◌, ◌++◌}
use Rattle.tenant_requests.specs.Requests.{AreClosed}
use Rattle.tenant_requests.proofs.closed.closed_requests.Given as goal

abbrev pub invariant-loop-request : goal.invariant-loop-request
invariant-loop-request l = AreClosed l.faults l.yielded l.all × (l.yielded ++ l.request-iterator.rest.items ≡ l.fn.requests)
