use Rattle.std.proofs.Common.{arith, ◌≤◌, length, subst, sym}
use Rattle.apex_num.specs.Decimals.{dec_text}
use Rattle.apex_num.proofs.HalfEven.{whole}
use Rattle.apex_num.proofs.Printing.{dec_spells, dec_shortest, taken_length}
use Rattle.apex_num.proofs.dec_text.print_dec.Goals as goal

pub returns-clause-spells : goal.returns-clause-spells
returns-clause-spells c = dec_spells c.args.d c.millionths.ensures.range

pub returns-clause-shortest : goal.returns-clause-shortest
returns-clause-shortest c =
    let value = c.millionths.ensures.value in
    let same = whole c.args.d (let r = c.millionths.ensures.range in omega arith) in
    let long = c.print_millionths.array_long in
    let within = c.print_millionths.ensures.within in
    λ text s. subst (λ n. n ≤ length text)
    (sym (taken_length c.print_millionths.result c.print_millionths.new.into (dec_text c.args.d) (omega arith) (rw (value, same) at c.print_millionths.ensures.text)))
    (dec_shortest c.args.d c.millionths.ensures.range text s)
