use Rattle.std.proofs.Common.{rules, ◌+◌, take, subst, sym}
use Rattle.std.proofs.lemmas.List.{take_all}
use Rattle.seed_rows.specs.Seeds.{place_of_row}
use Rattle.seed_rows.specs.Rows.{FaultAt, NoSeedRow, IsOnlySeedRow}
use Rattle.seed_rows.specs.Views.{all_as_written, as_written}
use Rattle.seed_rows.proofs.SeedSteps.{OnlyRows, row_more, fault_at}
use Rattle.seed_rows.proofs.seed.plain_rows.Goals as goal

pub returns-in-Err : goal.returns-in-Err
returns-in-Err c =
    let schema = c.args.places.now.schema.now in
    let all = c.args.ground.now.all.now in
    let w = c.index-all-i.result in
    let told : NoSeedRow schema (all_as_written all) c.rows.made.rows.items (as_written w) c.in-Err.end = search rules in
    let fault : FaultAt (place_of_row schema (all_as_written (take c.rows.i all)) (as_written w)) c.in-Err.end c.fault_of.result = search rules in
    fault_at schema all c.rows.i w c.rows.made.rows.items c.rows-test.true c.index-all-i.is c.rows.invariant c.in-Err.end told c.fault_of.result fault

pub rows-preserved : goal.rows-preserved
rows-preserved c =
    let schema = c.args.places.now.schema.now in
    let all = c.args.ground.now.all.now in
    let w = c.index-all-i.result in
    let told : IsOnlySeedRow schema (all_as_written all) c.rows.made.rows.items (as_written w) c.in-Ok.row = search rules in
    subst (λ l. OnlyRows schema (all_as_written all) (all_as_written (take (c.rows.i + 1) all)) l) (sym c.in_ok-made-in-Ok.ensures)
    (row_more schema all c.rows.i w c.rows.made.rows.items c.rows-test.true c.index-all-i.is c.rows.invariant c.in-Ok.row told)

pub returns : goal.returns
returns c =
    let all = c.args.ground.now.all.now in
    subst (λ l. OnlyRows c.args.places.now.schema.now (all_as_written all) (all_as_written l) c.rows.made.rows.items) (take_all c.rows.i all c.rows-test.false) c.rows.invariant
