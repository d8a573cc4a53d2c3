use Rattle.std.proofs.Common.{◌≡◌, ◌++◌, codes, IfOk, w64, ap, subst, ◌∙◌}
use Rattle.std.specs.Fmt.{signed_decimal}
use Rattle.std.proofs.lemmas.Int.{to_z-of_z}
use Rattle.platform_errors.proofs.thrown.at_row.Goals as goal

pub returns : goal.returns
returns c =
    subst (λ x. IfOk c.joined-2.result (λ t. t ≡ x))
    (ap (λ x. x ++ c.as_str-3.result.now) (c.as_str-2.ensures ∙ c.in_ok-number.ensures ∙ ap signed_decimal (to_z-of_z w64 c.args.row c.ranges.row))
    ∙ ap (λ x. signed_decimal c.args.row ++ x) (c.as_str-3.ensures ∙ c.in_ok-why.ensures ∙ ap (λ x. codes "; first error: " ++ x) (c.as_str.ensures ∙ c.in_ok-told.ensures)))
    c.joined-2.ensures
