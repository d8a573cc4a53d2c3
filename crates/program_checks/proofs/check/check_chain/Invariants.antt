use Rattle.std.proofs.Common.{All, take, ◌<◌, ℕ}
use Rattle.program_checks.proofs.check.check_chain.Given as goal

abbrev pub invariant-loop-class : goal.invariant-loop-class
invariant-loop-class l = All (λ (c : ℕ). c < l.classes) (take l.class-index l.chain)
