use Rattle.std.proofs.Common.{◌+◌, ◌<◌, ◌^◌, ap, refl, subst, sym, ◌∙◌}
use Rattle.std.specs.Prelude.{IfSome, slice_get}
use Rattle.stack_code.specs.Machine.{instrs_at}
use Rattle.program_things.specs.Kinds.{as_kind}
use Rattle.metered_vm.specs.Leaving.{clauses_in, first_taking}
use Rattle.metered_vm.proofs.Leads.{found_room}
use Rattle.metered_vm.proofs.leaving.clause_at.Goals as goal

pub returns-clause-room : goal.returns-clause-room
returns-clause-room c =
    subst (λ o. IfSome o (λ x. c.args.at + 1 + x.target < 2 ^ 64))
    (sym (c.clause_for.ensures ∙ ap (λ ks. first_taking c.args.image.now (as_kind c.args.kind) ks) (c.clauses_of.ensures ∙ ap clauses_in c.instr_at.ensures.value)))
    (found_room c.args.image.now c.requires c.args.body c.length_of-end.ensures.short c.args.at (as_kind c.args.kind) (slice_get (instrs_at c.args.image.now c.args.body) c.args.at) refl)
