use Rattle.std.proofs.Common.{◌∷◌, ◌++◌, [], sym, subst}
use Rattle.tenant_requests.specs.Requests.{AreClosedSessions}
use Rattle.tenant_requests.proofs.Steps.{rest_more, one_session_closed}
use Rattle.tenant_requests.proofs.closed.closed_sessions.Goals as goal

pub loop-session-preserved : goal.loop-session-preserved
loop-session-preserved c =
    let before = c.loop-session.yielded in
    let session = c.in-Some.session in (
      subst (λ l. AreClosedSessions c.args.faults.now (before ++ session ∷ []) l) (sym c.in_ok-push.ensures.ok)
          (one_session_closed c.args.faults.now before session c.loop-session.all (record { requests = c.in_ok-requests.requests }) c.loop-session.invariant.0 c.in_ok-requests.ensures),
      rest_more before c.loop-session.session-iterator.rest.items c.next.new.self.rest.items c.args.sessions session c.loop-session.invariant.1 c.in-Some.ensures.steps.0,
    )
