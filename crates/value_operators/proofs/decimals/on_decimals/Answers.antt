use Rattle.std.proofs.Common.{pos, ◌*ℤ◌, ap, sym, ◌∙◌}
use Rattle.value_operators.specs.Operators.{on_decimals, rounded}
use Rattle.value_operators.proofs.Rounding.{rounded_is}
use Rattle.value_operators.proofs.Steps.{million, quotient_is}
use Rattle.value_operators.proofs.decimals.on_decimals.Goals as goal

pub returns-in-Times : goal.returns-in-Times
returns-in-Times c =
    let product = c.args.x *ℤ c.args.y in
    c.answered-in-Times.ensures.range (rounded product (pos 1000000)) (c.dec_mul.ensures.only (rounded product (pos 1000000)) (rounded_is product (pos 1000000) million))
    ∙ ap (λ op. on_decimals op c.args.x c.args.y) (sym c.in-Times.is)

pub returns-in-Over : goal.returns-in-Over
returns-in-Over c =
    quotient_is c.args.x c.args.y c.dec_div.result c.answered-in-Over.result c.dec_div.ensures.zero c.dec_div.ensures.only c.answered-in-Over.ensures.range c.answered-in-Over.ensures.zero
    ∙ ap (λ op. on_decimals op c.args.x c.args.y) (sym c.in-Over.is)
