use Rattle.std.proofs.Common.{rules, ◌<◌, length, take, ◌+◌, sym, subst}
use Rattle.tenant_requests.specs.Requests.{AreOpen}
use Rattle.tenant_requests.proofs.Steps.{one_more}
use Rattle.tenant_requests.proofs.open.open_requests.Goals as goal

pub entries-preserved : goal.entries-preserved
entries-preserved c =
    let schema = c.args.places.now.schema.now in
    let entries = c.args.entries.now in
    let i = c.entries.i in
    let within : i < length entries = search rules in
    let before = c.args.blocks.now in
    let behind = c.open_request.new.blocks in
    subst (λ l. AreOpen schema c.args.user (take (i + 1) entries) before l behind) (sym c.in_ok-push.ensures.ok)
    (one_more schema c.args.user entries i c.index-entries-i.result within c.index-entries-i.is before c.entries.all c.in_ok-request.request c.entries.blocks behind c.entries.invariant c.in_ok-request.ensures)
