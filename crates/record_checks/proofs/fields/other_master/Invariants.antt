use Rattle.std.proofs.Common.{◌≡◌, drop}
use Rattle.save_statements.specs.Checks.{other_master}
use Rattle.record_checks.proofs.fields.other_master.Given as goal

abbrev pub invariant-loop-i : goal.invariant-loop-i
invariant-loop-i l = other_master l.i (drop l.i l.fields) l.pending ≡ other_master 0 l.fields l.pending
