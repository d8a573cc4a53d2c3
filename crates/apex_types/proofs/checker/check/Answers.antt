use Rattle.std.proofs.Common.{◌≡◌, Err, sym, ap, ◌∙◌, subst}
use Rattle.record_words.specs.Names.{object_names}
use Rattle.apex_types.specs.Checks.{Comes, checked}
use Rattle.apex_types.proofs.Steps.{memory_wanted}
use Rattle.apex_types.proofs.checker.check.Goals as goal

pub returns-in_err-members : goal.returns-in_err-members
returns-in_err-members c = memory_wanted (checked c.args.schema.now.objects c.args.units.now c.args.blocks.now) c.from_residual-in_err-members.result c.from_residual-in_err-members.ensures

pub returns : goal.returns
returns c =
    subst (λ u. Comes (checked c.args.schema.now.objects u c.args.blocks.now) c.program_of.result) c.in_ok-classes.ensures.units
    (subst (λ s. Comes (checked s.objects c.in_ok-classes.classes.units.now c.args.blocks.now) c.program_of.result) c.in_ok-words.ensures c.program_of.ensures)
