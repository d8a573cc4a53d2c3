use Rattle.std.proofs.Common.{rules, take}
use Rattle.fault_words.specs.declared.fault.FaultWord.TheVariants.{BadCell}
use Rattle.seed_rows.specs.declared.row.RowEnd.TheVariants.{Word}
use Rattle.seed_rows.specs.Rows.{FaultAt}
use Rattle.seed_rows.specs.Seeds.{place_of_row}
use Rattle.seed_rows.specs.Views.{all_as_written, as_written}
use Rattle.seed_rows.proofs.RollSteps.{fault_here}
use Rattle.seed_rows.proofs.places.out_of_range.Goals as goal

pub returns : goal.returns
returns c =
    let schema = c.args.schema.now in
    let ws = c.args.all.now in
    let w = c.index-all-n.result in
    let told : FaultAt (place_of_row schema (all_as_written (take c.args.n ws)) (as_written w)) (Word BadCell) c.fault_of.result = search rules in
    fault_here schema ws c.args.n w c.requires c.index-all-n.is c.fault_of.result told
