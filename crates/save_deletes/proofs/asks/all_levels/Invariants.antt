use Rattle.std.proofs.Common.{◌-◌}
use Rattle.save_statements.specs.Records.{going, rows_of}
use Rattle.save_deletes.proofs.Down.{Descends}
use Rattle.save_deletes.proofs.asks.all_levels.Given as goal

abbrev pub invariant-loop-i : goal.invariant-loop-i
invariant-loop-i l = Descends l.schema l.ticket l.overlay (rows_of (going l.records)) l.initial.answers (3 - l.i) l.more l.heads l.all l.answers
