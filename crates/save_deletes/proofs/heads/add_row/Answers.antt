use Rattle.std.proofs.lemmas.Result.{on_ok_weaker}
use Rattle.save_deletes.specs.Heads.{ids_in}
use Rattle.save_deletes.proofs.Sets.{row_in}
use Rattle.save_deletes.proofs.heads.add_row.Goals as goal

pub returns : goal.returns
returns c = on_ok_weaker c.add_id.result (λ h object. row_in object c.args.row.now (ids_in c.args.sets.now object) (ids_in c.add_id.new.sets object) (h object)) c.add_id.ensures
