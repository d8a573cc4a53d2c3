use Rattle.std.proofs.Common.{rules, ◌≡◌, ◌<◌, length, None}
use Rattle.tenant_sessions.specs.Users.{names, user_of}
use Rattle.tenant_sessions.proofs.Steps.{first_fault}
use Rattle.tenant_sessions.proofs.users.session_users.Goals as goal

pub returns-in-None : goal.returns-in-None
returns-in-None c =
    let users = c.args.users.now in
    let sessions = c.args.sessions.now in
    let session = c.index-sessions-i.result in
    let within : c.sessions.i < length sessions = search rules in
    let none : None ≡ user_of (names users) session = search rules in
    first_fault users sessions c.sessions.i session c.sessions.all within c.index-sessions-i.is c.sessions.invariant none c.unknown_user.result c.unknown_user.ensures
