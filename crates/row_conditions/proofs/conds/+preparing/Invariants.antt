use Rattle.std.proofs.Common.{take}
use Rattle.row_conditions.specs.Prepared.{AreAllPrepared}
use Rattle.row_conditions.proofs.conds.+preparing.Given as goal

abbrev pub invariant-prepare_each-loop-cond : goal.invariant-prepare_each-loop-cond
invariant-prepare_each-loop-cond l = AreAllPrepared l.binds (take l.cond-index l.conds) l.all
