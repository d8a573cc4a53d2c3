use Rattle.std.proofs.Common.{◌≡◌, ◌++◌, codes, IfOk, w64, ap, subst, ◌∙◌}
use Rattle.std.proofs.lemmas.Int.{to_z-of_z}
use Rattle.platform_errors.specs.Messages.{op_name, at_row}
use Rattle.platform_errors.proofs.thrown.failed.Goals as goal

pub returns : goal.returns
returns c =
    subst (λ x. IfOk c.joined-2.result (λ t. t ≡ x))
    (ap (λ x. x ++ c.as_str-2.result.now) c.op_name.ensures
    ∙ ap (λ x. op_name c.args.op ++ x) (c.as_str-2.ensures ∙ c.in_ok-behind.ensures
    ∙ ap (λ x. codes " failed. First exception on row " ++ x) (c.as_str.ensures ∙ c.in_ok-at.ensures ∙ ap (λ r. at_row r c.args.error.now) (to_z-of_z w64 c.args.row c.ranges.row))))
    c.joined-2.ensures
