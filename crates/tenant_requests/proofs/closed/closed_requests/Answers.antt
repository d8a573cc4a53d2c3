use Rattle.std.proofs.Common.{◌∷◌, ◌++◌, [], sym, subst}
use Rattle.tenant_requests.specs.Requests.{AreClosed}
use Rattle.tenant_requests.proofs.Steps.{rest_more, one_closed}
use Rattle.tenant_requests.proofs.closed.closed_requests.Goals as goal

pub loop-request-preserved : goal.loop-request-preserved
loop-request-preserved c =
    let before = c.loop-request.yielded in
    let request = c.in-Some.request in (
      subst (λ l. AreClosed c.args.faults.now (before ++ request ∷ []) l) (sym c.in_ok-push.ensures.ok)
          (one_closed c.args.faults.now before request c.loop-request.all c.in_ok-closed_request.field-0 c.loop-request.invariant.0 c.in_ok-closed_request.ensures),
      rest_more before c.loop-request.request-iterator.rest.items c.next.new.self.rest.items c.args.requests request c.loop-request.invariant.1 c.in-Some.ensures.steps.0,
    )
