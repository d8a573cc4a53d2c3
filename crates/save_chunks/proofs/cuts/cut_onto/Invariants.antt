use Rattle.std.proofs.Common.{◌≡◌, ◌++◌, length}
use Rattle.save_statements.specs.Statements.{all_cut}
use Rattle.save_chunks.proofs.cuts.cut_onto.Given as goal

abbrev pub invariant-back : goal.invariant-back
invariant-back l = all_cut l.act l.rows.items ++ l.chunks ≡ all_cut l.act l.fn.rows ++ l.fn.chunks

abbrev pub decreases-back : goal.decreases-back
decreases-back l = length l.rows.items
