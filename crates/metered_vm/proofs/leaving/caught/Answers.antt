use Rattle.std.proofs.Common.{IfOk, ap, subst, sym, ◌∙◌}
use Rattle.std.specs.Prelude.{slice_get}
use Rattle.stack_code.specs.Machine.{instrs_at}
use Rattle.stack_code.specs.Steps.{caught_by}
use Rattle.program_things.specs.Steps.{IsStep}
use Rattle.metered_vm.specs.Leaving.{clauses_in, first_taking}
use Rattle.metered_vm.proofs.Leads.{caught_is}
use Rattle.metered_vm.proofs.leaving.caught.Goals as goal

pub returns : goal.returns
returns c =
    subst (λ x. IfOk c.caught_by.result (λ m. IsStep x m c.caught_by.new.c))
    (ap (λ k. caught_by (record { schema = c.args.schema.now; ticket = c.args.ticket }) c.args.image.now k c.args.at c.args.raised c.args.c.now)
    (c.clause_at-clause.ensures.value ∙ ap (λ k. first_taking c.args.image.now k (clauses_in (slice_get (instrs_at c.args.image.now c.args.c.now.top.body) c.args.at))) c.kind_raised-kind.ensures)
    ∙ sym (caught_is (record { schema = c.args.schema.now; ticket = c.args.ticket }) c.args.image.now (slice_get (instrs_at c.args.image.now c.args.c.now.top.body) c.args.at) c.args.at c.args.raised c.args.c.now))
    c.caught_by.ensures
