use Rattle.std.proofs.Common.{subst}
use Rattle.std.specs.Prelude.{slice_get}
use Rattle.attempt_run.specs.Picks.{IsFirst, unfinished_in}
use Rattle.attempt_run.proofs.Cursors.{found_here, found_none, passed_in, passed_next}
use Rattle.attempt_run.proofs.picks.found.Goals as goal

pub first_there-requires : goal.first_there-requires
first_there-requires c = passed_in c.args.plans.now c.args.all.now c.tenants.tenant c.tenants.from c.tenants.invariant

pub returns-in-Some : goal.returns-in-Some
returns-in-Some c =
    found_here c.args.plans.now c.args.all.now c.tenants.tenant c.tenants.from c.in-Some.session c.tenants.invariant
    (subst (IsFirst (unfinished_in (slice_get c.args.plans.now c.tenants.tenant) (slice_get c.args.all.now c.tenants.tenant))) c.in-Some.is c.first_there.ensures)

pub tenants-preserved : goal.tenants-preserved
tenants-preserved c =
    passed_next c.args.plans.now c.args.all.now c.tenants.tenant c.tenants.from c.tenants.invariant
    (subst (IsFirst (unfinished_in (slice_get c.args.plans.now c.tenants.tenant) (slice_get c.args.all.now c.tenants.tenant))) c.in-None.is c.first_there.ensures)

pub returns : goal.returns
returns c = found_none c.args.plans.now c.args.all.now c.tenants.tenant c.tenants.from c.tenants.invariant c.tenants-test.false
