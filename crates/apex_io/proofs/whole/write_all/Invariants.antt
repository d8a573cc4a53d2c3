use Rattle.std.proofs.Common.{◌≡◌, ◌≤◌, ◌++◌, List, ℕ, length}
use Rattle.apex_io.specs.Outside.{Adds}
use Rattle.apex_io.proofs.whole.write_all.Given as goal

abbrev pub invariant-loop-rest : goal.invariant-loop-rest
invariant-loop-rest g l = record {
  sent : (front : List ℕ) × (l.text ≡ front ++ l.rest) × Adds (g.K.Sink.held l.fn.sink) front (g.K.Sink.held l.sink);
  counted : g.K.Sink.faults l.fn.sink ≤ g.K.Sink.faults l.sink;
}

abbrev pub decreases-loop-rest : goal.decreases-loop-rest
decreases-loop-rest g l = length l.rest
