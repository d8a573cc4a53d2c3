use Rattle.std.proofs.Common.{eqb}
use Rattle.indexmap.specs.IndexSet.{contains}
use Rattle.seed_rows.specs.Keys.{key, key_eq}
use Rattle.seed_rows.specs.Written.{gives_id}
use Rattle.seed_rows.proofs.Steps.{entry_more}
use Rattle.seed_rows.proofs.keys.add_row.Goals as goal

pub loop-entry-preserved : goal.loop-entry-preserved
loop-entry-preserved c n id is =
    entry_more (gives_id id) c.args.cells.now c.loop-entry.entry-index c.entry-item.result c.loop-entry-test.true c.entry-item.is (eqb c.args.object n)
    (contains key_eq c.args.keys.now (key n id)) (contains key_eq c.loop-entry.keys (key n id)) (contains key_eq c.add_cell.new.keys (key n id)) (c.loop-entry.invariant n id is) (c.in_ok-add_cell.ensures n id is)
