use Rattle.std.proofs.Common.{◌≡◌, map, take, Some}
use Rattle.tenant_sessions.specs.Users.{each_user}
use Rattle.tenant_sessions.proofs.users.session_users.Given as goal

abbrev pub invariant-sessions : goal.invariant-sessions
invariant-sessions l = each_user l.users (take l.i l.sessions) ≡ map Some l.all
