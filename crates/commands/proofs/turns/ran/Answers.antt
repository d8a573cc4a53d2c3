use Rattle.std.proofs.Common.{ap, subst, sym, ◌∙◌, length}
use Rattle.bundle_read.specs.Laws.{AreBounded}
use Rattle.commands.proofs.Tenants.{all_have_room, as_many_faults, as_many_trails}
use Rattle.commands.proofs.turns.ran.Goals as goal

pub run_tenants-requires : goal.run_tenants-requires
run_tenants-requires c =
    let all = c.in_ok-faults.field-0 in
    all_have_room c.as_slice.result.now all.faults all.parts c.laws_of_parts.ensures.parts (subst AreBounded (sym c.as_slice.ensures) c.requires) c.in_ok-faults.ensures

pub report-requires-clause-faults : goal.report-requires-clause-faults
report-requires-clause-faults c =
    let all = c.in_ok-faults.field-0 in
    ap length c.as_slice-2.ensures ∙ as_many_faults c.as_slice.result.now all.faults all.parts c.in_ok-faults.ensures ∙ ap length c.as_slice.ensures

pub report-requires-clause-trails : goal.report-requires-clause-trails
report-requires-clause-trails c =
    let all = c.in_ok-faults.field-0 in
    let ran = c.in_ok-images.field-0 in
    ap length c.as_slice-3.ensures ∙ as_many_trails c.as_slice.result.now all.faults all.parts c.args.turns.now ran.images ran.trails c.in_ok-faults.ensures c.in_ok-images.ensures ∙ ap length c.as_slice.ensures
