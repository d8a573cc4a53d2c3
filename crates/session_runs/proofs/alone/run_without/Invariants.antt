use Rattle.std.proofs.Common.{[]}
use Rattle.session_runs.specs.Blocks.{IsAt}
use Rattle.session_runs.proofs.alone.run_without.Given as goal

abbrev pub invariant-questions : goal.invariant-questions
invariant-questions l = IsAt l.schema l.ticket l.image l.block [] l.vm l.answer
