use Rattle.std.proofs.Common.{[], subst, sym}
use Rattle.tenant_requests.specs.Requests.{AreOpenSessions}
use Rattle.seed_rows.specs.Seeds.{IsOnlySeed, NoSeed, all_written}
use Rattle.tenant_front.specs.Faults.{of_seed}
use Rattle.tenant_front.specs.Parts.{IsProgram, NoRest}
use Rattle.tenant_front.proofs.Steps.{handed_on, seed_fault}
use Rattle.tenant_front.proofs.deploy.rest_of.Goals as goal

pub returns-in_err-seed : goal.returns-in_err-seed
returns-in_err-seed c =
    let plan = c.args.plan.now in
    let schema = c.args.schema.now in
    let units = c.args.units.now in
    let fault = c.in_err-seed.field-0.0 in
    let written = c.as_slice-3.result.now in
    let told = subst (λ l. NoSeed schema (all_written schema l) fault) c.as_slice-3.ensures (subst (λ s. NoSeed s (all_written s written) fault) c.in_ok-places.ensures c.in_err-seed.ensures) in
    handed_on c.from_residual-in_err-seed.result _ (NoRest plan schema units) (of_seed fault) c.from_residual-in_err-seed.ensures
    (seed_fault plan schema units c.as_slice-blocks.result.now c.in_ok-program.program c.in_ok-program.ensures fault told)

pub returns : goal.returns
returns c =
    let plan = c.args.plan.now in
    let schema = c.args.schema.now in
    let users = c.args.users.now in
    let opened = c.in_ok-opened.opened in
    let rows = c.in_ok-seed.seed.items in
    let open_in = subst (λ l. AreOpenSessions c.in_ok-places.places.schema.now users l [] opened.sessions opened.blocks) c.as_slice.ensures c.in_ok-opened.ensures in
    let seed_in = subst (λ l. IsOnlySeed c.in_ok-places.places.schema.now (all_written c.in_ok-places.places.schema.now l) rows) c.as_slice-3.ensures c.in_ok-seed.ensures in
    let seed_of = subst (λ s. IsOnlySeed s (all_written s plan.seed) rows) c.in_ok-places.ensures seed_in in
    record {
      opened = opened.sessions;
      blocks = opened.blocks;
      are_open = subst (λ s. AreOpenSessions s users plan.sessions [] opened.sessions opened.blocks) c.in_ok-places.ensures open_in;
      is_program = subst (λ l. IsProgram schema c.args.units.now l c.in_ok-program.program) c.as_slice-blocks.ensures c.in_ok-program.ensures;
      is_seed = subst (λ l. IsOnlySeed schema (all_written schema plan.seed) l) (sym c.of-2.ensures) seed_of;
      are_closed = c.in_ok-sessions.ensures;
    }
