use Rattle.std.proofs.Common.{arith, ⊎_elim, ◌≡◌, ◌∙◌, ap, sym, subst, take}
use Rattle.std.specs.Str.Parse.{AllDigits, digits_value}
use Rattle.std.proofs.lemmas.List.{take_all}
use Rattle.civil_dates.proofs.Fields.{more, small, no_digit}
use Rattle.civil_dates.proofs.TextSteps.{digits_there, digits_not_there}
use Rattle.civil_dates.proofs.texts.field.Goals as goal

pub returns-then-not-is_ascii_digit : goal.returns-then-not-is_ascii_digit
returns-then-not-is_ascii_digit c =
    digits_not_there c.args.text.now (no_digit c.args.text.now c.loop-byte.byte-index c.loop-byte-test.true (λ r. ⊎_elim (λ low. let k = r.0 in omega arith) (λ high. let k = r.1 in omega arith) c.if-not-is_ascii_digit.ensures.cases))

pub overflow_mul-value : goal.overflow_mul-value
overflow_mul-value c =
    let s = small c.args.text.now c.loop-byte.byte-index c.loop-byte.value c.requires c.loop-byte-test.true c.loop-byte.invariant.0 c.loop-byte.invariant.1 in
    omega arith

pub overflow_add-value : goal.overflow_add-value
overflow_add-value c =
    let s = small c.args.text.now c.loop-byte.byte-index c.loop-byte.value c.requires c.loop-byte-test.true c.loop-byte.invariant.0 c.loop-byte.invariant.1 in
    let d = c.if-not-is_ascii_digit.ensures.cases in
    omega arith

pub loop-byte-preserved : goal.loop-byte-preserved
loop-byte-preserved c =
    more c.args.text.now c.loop-byte.byte-index c.loop-byte.value c.loop-byte-test.true c.loop-byte.invariant.0 c.if-not-is_ascii_digit.ensures.cases c.loop-byte.invariant.1

pub returns : goal.returns
returns c =
    let whole : take c.loop-byte.byte-index c.args.text.now ≡ c.args.text.now = take_all c.loop-byte.byte-index c.args.text.now (let t = c.loop-byte-test.false in omega arith) in
    let i = c.loop-byte.invariant in
    (digits_there c.args.text.now (subst (AllDigits 10) whole i.0), sym (i.1 ∙ ap (digits_value 10) whole))
