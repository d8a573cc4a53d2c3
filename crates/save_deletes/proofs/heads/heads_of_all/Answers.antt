use Rattle.save_statements.specs.Checks.{joined}
use Rattle.save_statements.specs.Records.{going, rows_of}
use Rattle.save_deletes.specs.Heads.{ids_in}
use Rattle.save_deletes.proofs.Sets.{both_in}
use Rattle.save_deletes.proofs.heads.heads_of_all.Goals as goal

pub returns : goal.returns
returns c = λ object.
    both_in object (rows_of (going c.args.records.now)) (joined c.args.levels.now) (ids_in c.in_ok-sets.sets object) (ids_in c.add_levels.new.sets object) (c.in_ok-sets.ensures object) (c.in_ok-add_levels.ensures object)
