use Rattle.std.proofs.Common.{◌++◌, ◌∷◌, take}
use Rattle.apex_num.specs.Decimals.{part_digits}
use Rattle.apex_num.proofs.Printing.{print_step}
use Rattle.apex_num.proofs.dec_text.print_part.Goals as goal

pub loop-rest-preserved : goal.loop-rest-preserved
loop-rest-preserved c =
    let i = c.loop-rest.invariant in
    print_step c.loop-rest.into (take c.args.at c.args.into.now ++ 46 ∷ part_digits 6 c.args.rest) c.args.into.now c.loop-rest.end c.args.at c.loop-rest.k c.loop-rest.rest c.pow-unit.result
    i.0 i.1 c.loop-rest-test.true i.2 c.requires.room c.pow-unit.ensures i.3 i.4 i.5
