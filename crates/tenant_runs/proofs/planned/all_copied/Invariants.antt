use Rattle.std.proofs.Common.{◌≡◌, take}
use Rattle.tenant_runs.proofs.planned.all_copied.Given as goal

abbrev pub invariant-sessions : goal.invariant-sessions
invariant-sessions l = l.copies ≡ take l.session-index l.sessions
