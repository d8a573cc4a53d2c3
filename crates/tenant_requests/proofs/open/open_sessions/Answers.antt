use Rattle.std.proofs.Common.{rules, ◌<◌, [], refl, length, take, get_or, ◌+◌, sym, subst}
use Rattle.tenant_requests.specs.Requests.{AreOpen, AreOpenSessions}
use Rattle.tenant_requests.proofs.Steps.{one_session_more}
use Rattle.tenant_requests.proofs.open.open_sessions.Goals as goal

pub entries-preserved : goal.entries-preserved
entries-preserved c =
    let schema = c.args.places.now.schema.now in
    let users = c.args.users.now in
    let entries = c.args.entries.now in
    let i = c.entries.i in
    let within : i < length entries = search rules in
    let user = get_or users i 0 in
    let entry = c.index-entries-i.result in
    let blocks = c.entries.blocks in
    let behind = c.open_requests.new.blocks in
    let opened = subst (λ l. AreOpen schema user l blocks c.in_ok-requests.requests behind) c.as_slice-requests.ensures c.in_ok-requests.ensures in
    subst (λ l. AreOpenSessions schema (take (i + 1) users) (take (i + 1) entries) [] l behind) (sym c.in_ok-push.ensures.ok)
    (one_session_more schema users entries i user entry c.requires within refl c.index-entries-i.is [] c.entries.sessions (record { requests = c.in_ok-requests.requests }) blocks behind c.entries.invariant opened)
