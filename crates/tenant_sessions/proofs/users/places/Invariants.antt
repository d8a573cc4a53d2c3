use Rattle.std.proofs.Common.{◌≡◌, take}
use Rattle.tenant_sessions.specs.Users.{names}
use Rattle.tenant_sessions.proofs.users.places.Given as goal

abbrev pub invariant-loop-user : goal.invariant-loop-user
invariant-loop-user l = l.names.items ≡ names (take l.user-index l.users)
