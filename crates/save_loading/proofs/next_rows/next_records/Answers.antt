use Rattle.save_statements.specs.Statements.{unplaced}
use Rattle.save_loading.proofs.Nexts.{no_update, stay}
use Rattle.save_loading.proofs.next_rows.next_records.Goals as goal

pub returns-in-Inserting : goal.returns-in-Inserting
returns-in-Inserting c = stay c.args.by c.args.object.now c.args.act (no_update c.args.act c.in-Inserting.is) (unplaced c.args.rows.now) c.args.records
