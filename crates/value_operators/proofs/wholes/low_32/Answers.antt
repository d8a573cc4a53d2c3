use Rattle.std.proofs.Common.{arith, ◌≡◌, pos, to_z, of_z, ap, ◌∙◌, unsigned_abs}
use Rattle.std.specs.Int.{int_wrap, int_rem_euclid, w32, w128}
use Rattle.std.proofs.lemmas.Int.{ints}
use Rattle.value_operators.proofs.wholes.low_32.Goals as goal

pub returns : goal.returns
unfolding int_wrap
returns c =
    let low = c.rem_euclid-low.result in
    let back : to_z w32 (of_z w32 c.cast_signed.result) ≡ c.cast_signed.result = omega (arith, ints) in
    let rest : to_z w128 (of_z w128 low) ≡ low = omega (arith, ints) in
    let same : to_z w128 (of_z w128 c.args.n) ≡ c.args.n = omega (arith, ints) in
    back ∙ c.cast_signed.ensures ∙ ap (λ x. to_z w32 (unsigned_abs x)) (rest ∙ c.rem_euclid-low.ensures.value ∙ ap (λ x. int_rem_euclid x (pos 4294967296)) same)
