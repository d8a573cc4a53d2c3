use Rattle.std.proofs.Common.{◌≡◌, ◌+◌, ◌-◌, true, take, drop, subst, arith}
use Rattle.std.specs.Str.Parse.{digits_value}
use Rattle.civil_dates.specs.Texts.{are_digits}
use Rattle.civil_dates.proofs.TextSteps.{all_three}
use Rattle.civil_dates.proofs.texts.three.Goals as goal

pub returns : goal.returns
returns c =
    let n = c.args.n in
    let text = c.args.text.now in
    let two : n + 3 - (n + 1) ≡ 2 = omega arith in
    let last : n + 6 - (n + 4) ≡ 2 = omega arith in
    let a = c.in-Some.ensures in
    let b = subst (λ k. (are_digits (take k (drop (n + 1) text)) ≡ true) × (digits_value 10 (take k (drop (n + 1) text)) ≡ c.in-Some-field.second)) two c.in-Some-field.ensures in
    let d = subst (λ k. (are_digits (take k (drop (n + 4) text)) ≡ true) × (digits_value 10 (take k (drop (n + 4) text)) ≡ c.in-Some-field-2.third)) last c.in-Some-field-2.ensures in
    (all_three n c.args.sign text c.if-text-n.false c.if-text-n-2.false c.if-text-n-3.false a.0 b.0 d.0, a.1, b.1, d.1)
