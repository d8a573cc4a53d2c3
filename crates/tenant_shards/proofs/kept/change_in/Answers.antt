use Rattle.std.proofs.Common.{◌≡◌, refl, sym, subst, Some}
use Rattle.std.specs.Prelude.{OnOk, IsSome, slice_get}
use Rattle.legal_trails.specs.Legal.{Session}
use Rattle.tenant_shards.specs.Changes.{changed}
use Rattle.tenant_shards.specs.Tenants.{kept_at, sessions_in, sessions_at}
use Rattle.tenant_shards.proofs.kept.change_in.Goals as goal

pub returns-clause-ok : goal.returns-clause-ok
returns-clause-ok c =
    let old = c.args.tenants.now.entries in
    let new = (c.get_mut.follows.lender c.change.new.kept).entries in
    let before : kept_at c.args.tenant old ≡ Some c.in-Some.kept.now = sym c.in-Some.ensures.value in
    let after : kept_at c.args.tenant new ≡ Some c.change.new.kept = ((c.get_mut.follows.holds c.change.new.kept).3 (subst IsSome (sym before) refl)).1 in
    subst (λ o. OnOk c.change.result ((at : Session) → slice_get (sessions_in o) c.args.session ≡ Some at → sessions_at c.args.tenant new ≡ changed c.args.how c.args.session (sessions_in o) at)) (sym before)
    (subst (λ o. OnOk c.change.result ((at : Session) → slice_get c.in-Some.kept.now.sessions c.args.session ≡ Some at → sessions_in o ≡ changed c.args.how c.args.session c.in-Some.kept.now.sessions at)) (sym after) c.change.ensures.ok)
