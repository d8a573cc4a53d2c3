use Rattle.std.proofs.Common.{◌≡◌, take}
use Rattle.tenant_runs.proofs.planned.copied.Given as goal

abbrev pub invariant-requests : goal.invariant-requests
invariant-requests l = l.copies ≡ take l.request-index l.requests
