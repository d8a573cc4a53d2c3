use Rattle.std.proofs.Common.{rules, ◌∙◌}
use Rattle.std.proofs.lemmas.Slice.{overwrites}
use Rattle.apex_num.proofs.Checks.{joined}
use Rattle.apex_num.proofs.id.id_18.Goals as goal

pub returns : goal.returns
returns c =
    let whole = joined c.copy_from_slice.new.self c.copy_from_slice-2.new.self c.args.id.now (c.copy_from_slice.ensures.after ∙ c.bytes.ensures.value) (c.copy_from_slice-2.ensures.after ∙ c.checks_of.ensures) in
    search (rules, overwrites)
