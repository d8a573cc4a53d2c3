use Rattle.std.proofs.Common.{◌≡◌, ℕ, ◌<◌, slice_get, Some}
use Rattle.stack_code.specs.declared.code.Instr.{Instr}
use Rattle.stack_code.specs.Checked.{FineAt}
use Rattle.program_checks.proofs.check.check_code.Given as goal

abbrev pub invariant-loop-pc : goal.invariant-loop-pc
invariant-loop-pc l = (k : ℕ) (i : Instr) → k < l.pc → slice_get l.code k ≡ Some i → FineAt l.begins l.code k i
